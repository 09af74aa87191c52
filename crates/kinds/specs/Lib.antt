-- The definitions that the contracts of `kinds` cite.
pub mod Limits
pub mod Sizes
pub mod Refusals
pub mod Words
