-- The rules that a canonical store keeps, and its words.
pub mod KeptRules
