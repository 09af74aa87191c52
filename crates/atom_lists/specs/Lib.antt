-- Atoms by their class words, and the words of a list of atoms.
pub mod Roles
pub mod ListWords
pub mod Split
