-- The laws of the programs' texts.
pub mod ProgramTexts
