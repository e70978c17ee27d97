pub mod Words
pub mod Layout
pub mod Lies
