-- The whole draft.
pub mod Ends
pub mod Holds
pub mod Cleared
pub mod Closed
pub mod Laws
