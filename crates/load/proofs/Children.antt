-- The automaton of a record's children is tied to the kinds table by one computation.
pub mod Automaton
pub mod Cues
pub mod Run
pub mod Tidy
pub mod Begins
pub mod Decided
pub mod Even
pub mod Turned
