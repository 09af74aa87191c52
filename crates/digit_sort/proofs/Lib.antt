-- The laws that the proofs of `digit_sort` cite.
pub mod DigitCounts
pub mod CountLoops
pub mod SpreadLoop
pub mod Spreads
pub mod Keys
