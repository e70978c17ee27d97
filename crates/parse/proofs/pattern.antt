-- Patterns.
pub mod Forms
