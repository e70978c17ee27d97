-- The way through a rule, step by step, whichever the rule is.
pub mod Lists
pub mod ByClass
pub mod Marks
pub mod Amid
pub mod Steps
pub mod Closing
pub mod Chain
pub mod Told
pub mod Commas
pub mod Heads
pub mod Pieces
pub mod Refused
pub mod Entered
pub mod Brackets
