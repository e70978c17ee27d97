-- The tokens of a text.
pub mod Tokens
