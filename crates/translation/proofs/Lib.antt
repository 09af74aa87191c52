-- The laws of the translator's answer.
pub mod Translating
pub mod ProgramStores
