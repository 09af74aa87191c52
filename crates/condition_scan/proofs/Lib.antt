-- The laws of the scan.
pub mod Turns
pub mod WordSorts
pub mod Steps
pub mod Passing
pub mod FewConnectives
