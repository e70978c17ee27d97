-- Document 01, "Records and the marks they own": from a shape tree to its records and the refusals of the shapes.
pub mod Records
pub mod Faults
pub mod Samples
