-- The laws of names.
pub mod NameBits
pub mod NameForms
pub mod Decimals
pub mod Numerals
pub mod MadeNumbers
pub mod MadeNames
