-- The laws of counting the rules and of writing their lists.
pub mod MarkedWalk
pub mod Raising
pub mod Entering
pub mod Placing
pub mod CountedRules
pub mod FilledLists
pub mod FilledRules
pub mod FittedIndex
pub mod StoreIndex
