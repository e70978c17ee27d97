-- The tests by which the code goes agree with what they test of each record and its children.
pub mod Small
pub mod Stands
pub mod Verdict
