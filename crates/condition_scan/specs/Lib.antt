-- The scan of a condition.
pub mod Sorts
pub mod Scans
