pub mod Constants
pub mod Laws
pub mod Members
pub mod Right
pub mod Held
