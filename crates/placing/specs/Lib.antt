-- What is put in place, and its parts.
pub mod Unplaced
pub mod Parts
