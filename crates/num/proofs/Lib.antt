pub mod Runs
pub mod Reading
pub mod Room
pub mod Fill
pub mod Base
pub mod Ones
pub mod BoundLaws
pub mod ValueLaws
