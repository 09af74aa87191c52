-- Orders, lists in order, the canonical rules and the canonical program.
pub mod Order
pub mod Canonical
pub mod CanonicalProgram
pub mod TidyProgram
