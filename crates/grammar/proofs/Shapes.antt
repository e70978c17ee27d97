-- The laws of the shapes: the tables are right, a draft has one tree at most, and every class is that of some token.
pub mod TokenClasses
pub mod WellShapedLaws
