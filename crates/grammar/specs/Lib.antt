pub mod Shapes
pub mod Entry
pub mod Records
pub mod Answers
pub mod Cases
