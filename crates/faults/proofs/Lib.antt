-- The laws of the faults.
pub mod NameClasses
pub mod Entries
pub mod Conditions
pub mod LineTokens
pub mod Pairs
pub mod LineForms
pub mod TextLines
pub mod Tests
pub mod LimitTests
pub mod LowestFault
pub mod EarliestFault
pub mod LineOrder
