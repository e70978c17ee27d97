pub mod Utf8
pub mod Octets
pub mod Second
pub mod Found
