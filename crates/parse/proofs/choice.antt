-- The tables of choice.rt.
pub mod Tables
pub mod Checks
pub mod Chosen
