-- The laws of a declaring line's step.
pub mod DeclaredSteps
