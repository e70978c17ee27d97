pub mod Digits
pub mod Value
pub mod Bound
pub mod Examples
