-- Names and single tokens.
pub mod Tests
pub mod Chain
pub mod Rows
pub mod Steps
pub mod Joined
