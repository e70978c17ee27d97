pub mod Hex
pub mod Form
pub mod Lines
pub mod Written
