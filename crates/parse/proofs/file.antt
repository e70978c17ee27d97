-- The items of a file.
pub mod Forms
pub mod Loop
pub mod Steps
