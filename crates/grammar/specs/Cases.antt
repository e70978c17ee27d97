-- Drafts with known results, computed.
pub mod Cases
pub mod Known
pub mod Files
pub mod Boundaries
pub mod Starts
