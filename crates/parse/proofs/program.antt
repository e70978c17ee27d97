-- The function and its parameters.
pub mod Forms
pub mod FunctionHead
pub mod Steps
