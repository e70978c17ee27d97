-- The laws of the reader's answer: when it is which, in which order, and what is written then.
pub mod Continuations
pub mod Laws
pub mod LeanLaws
pub mod OutcomeLaws
pub mod Places
pub mod TokensInOrder
