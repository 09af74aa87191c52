-- What each step of the translation writes.
pub mod RuleLists
pub mod Offsets
pub mod StepWords
