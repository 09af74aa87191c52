-- The index of a program's rules by their atoms, and the rules that a set breaks.
pub mod Index
pub mod Flip
pub mod Growth
pub mod Passing
pub mod Places
pub mod Answers
pub mod Meanings
