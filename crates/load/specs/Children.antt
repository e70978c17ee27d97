-- The order of a record's children, by an automaton.
pub mod Tidy
pub mod Table
pub mod Cue
pub mod Cues
pub mod Laid
pub mod Automaton
pub mod Run
pub mod Begin
