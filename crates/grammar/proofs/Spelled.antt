-- Every record spells the rule of its kind: the laws behind demand 3. Nothing here need be believed.
pub mod BlockLaws
pub mod CountedLaws
pub mod Decisions
pub mod FormTests
pub mod HeadLaws
pub mod Inclusion
pub mod MatchLaws
pub mod NameLaws
pub mod NumberLaws
pub mod RecordLaws
pub mod Rows
pub mod Rules
pub mod ShapeLaws
pub mod ShapeTests
pub mod TreeTokens
