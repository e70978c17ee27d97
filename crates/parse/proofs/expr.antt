-- Expressions, calls and matches.
pub mod Forms
pub mod Elements
pub mod CallRows
pub mod CallForms
pub mod CallLaws
pub mod CallSteps
pub mod CallEnd
pub mod FoldForm
pub mod NameRules
pub mod ArmsLoop
pub mod MatchForm
pub mod LetForm
pub mod AngleForms
pub mod BracketForms
pub mod ArmForms
