-- How the code tests that records form a whole function or program: each record with one walk over its children.
pub mod Parts
pub mod Stands
pub mod Judge
pub mod Listed
pub mod Heads
pub mod Small
pub mod GivenWays
