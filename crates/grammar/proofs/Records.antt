-- The laws of the refusals of the shapes: which there are, and that the earliest is found.
pub mod FaultLaws
pub mod FaultNumbers
