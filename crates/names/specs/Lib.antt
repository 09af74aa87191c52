-- Decimal numbers, and which bytes are names.
pub mod Numerals
pub mod Names
