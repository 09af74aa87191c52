-- The translation of a preference program to a plain one (document 01, "The translation").
pub mod Atoms
pub mod Steps
pub mod Translated
pub mod Loops
