pub mod Read
pub mod Listed
pub mod Arrays
pub mod Fits
pub mod Digits
pub mod Loading
