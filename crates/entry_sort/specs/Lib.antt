-- Entries sorted by their keys, and runs of equal ones.
pub mod EqualKeys
