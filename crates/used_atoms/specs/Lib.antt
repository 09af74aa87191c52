-- The marks of atoms.
pub mod Marks
