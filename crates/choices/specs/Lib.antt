-- Partial choices, and those that a walk visits.
pub mod Choices
