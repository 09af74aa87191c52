-- The laws of class words and of lists of atoms.
pub mod Roles
pub mod Counting
pub mod ListLaws
pub mod Splitting
