-- The laws of canonical texts, and examples.
pub mod UsedAtoms
pub mod CanonicalTexts
pub mod Examples
