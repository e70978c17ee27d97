-- Document 01, "Well-shaped drafts": the shapes as a grammar, the tables made from it, and what is well-shaped.
pub mod Categories
pub mod Notation
pub mod Row
pub mod Shapes
pub mod ShapeKind
pub mod Tables
pub mod TablesIndex
pub mod Named
pub mod WellShaped
pub mod Samples
