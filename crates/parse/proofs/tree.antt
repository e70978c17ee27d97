-- Words of records.
pub mod Splice
pub mod Numbers
