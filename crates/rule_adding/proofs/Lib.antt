-- The laws of a rule added to a store and its index.
pub mod RuleFits
pub mod GrowingList
pub mod GrowingLists
pub mod MarkedLists
pub mod WritingStore
pub mod Outputs
pub mod AddedRule
pub mod AddAnswers
