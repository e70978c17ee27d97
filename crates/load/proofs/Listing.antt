-- The laws of lines: what is in form, and that lines are read back.
pub mod DigitLaws
pub mod LineForm
pub mod LineLaws
pub mod ListingLaws
pub mod RecordLaws
