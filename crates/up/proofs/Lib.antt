mod Raise
pub mod Buffer
pub mod Children
pub mod Climb
pub mod Laws
pub mod Parents
