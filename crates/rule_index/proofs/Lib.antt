-- The laws of the index, of its growth and of a flip.
pub mod Examples
pub mod Segments
pub mod RuleNumbers
pub mod RisingLists
pub mod FlippedSets
pub mod BrokenRules
pub mod Flips
pub mod Growth
pub mod RuleWalk
pub mod RulePlaces
pub mod ListPlaces
pub mod IndexSize
