-- Document 01, "What the reader hands over": the answer, and when it is which.
pub mod Answer
pub mod Lines
pub mod Outcome
pub mod Promised
pub mod Lean
