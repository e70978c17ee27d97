-- The lines of a listing: what their form is, and how they are read back.
pub mod InForm
pub mod Read
pub mod DigitLaws
pub mod LineForm
