-- The next state over masks.
pub mod NextMasks
pub mod SortedNext
