-- Heads of arms.
pub mod PairForms
pub mod Forms
pub mod Steps
