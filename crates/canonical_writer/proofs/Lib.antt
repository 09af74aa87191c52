-- The laws of the canonical writer's answer.
pub mod WritingCanonical
