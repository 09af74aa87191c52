-- The marks and the new numbers of a program's atoms.
pub mod Tables
