-- The digits of a number, and the entries of a list by their digit.
pub mod Digits
