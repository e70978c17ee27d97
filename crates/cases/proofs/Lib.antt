mod AllZero
mod Chunks
