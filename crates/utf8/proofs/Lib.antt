pub mod Leads
pub mod Laws
pub mod Parts
pub mod Sequences
pub mod Walks
pub mod Founds
