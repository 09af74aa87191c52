-- The answers as fields of numbers.
pub mod Fields
