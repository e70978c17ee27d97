pub mod Ways
pub mod Buffer
pub mod Children
pub mod Ups
