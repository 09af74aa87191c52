-- Clause files (document 02, W-202): items, literals, lines with their faults, and the program that is written.
pub mod Items
pub mod Literals
pub mod Tokens
pub mod Gathered
pub mod Faults
pub mod Written
pub mod ClausesSaid
pub mod Satisfying
pub mod Sentences
