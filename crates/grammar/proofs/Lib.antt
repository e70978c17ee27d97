pub mod Answers
pub mod Records
pub mod Shapes
pub mod Spelled
