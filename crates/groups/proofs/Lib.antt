-- The laws of groups: of a plan's parts, of one rule, of sizes and ends, of the groups filled up, of the rules in their places, and of the tables as they are filled.
pub mod PlanParts
pub mod LowestBit
pub mod LastAtoms
pub mod Tallies
pub mod Counting
pub mod AddingUp
pub mod GroupEnds
pub mod Padding
pub mod Placing
pub mod PlacedRule
pub mod PlacedRules
pub mod Filling
