pub mod Part
pub mod Rows
pub mod TwoDigits
pub mod Fields
pub mod Listing
pub mod Form
pub mod Hex
pub mod Lines
