-- What holds of canonical texts.
pub mod CanonicalTexts
