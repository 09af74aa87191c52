-- Rules and classes as masks, and answers over places.
pub mod Masks
pub mod FilledMasks
pub mod AnswersAt
