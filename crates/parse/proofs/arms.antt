-- The order of a match's arms.
pub mod Laws
pub mod Turned
