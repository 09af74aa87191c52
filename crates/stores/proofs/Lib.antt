-- The laws of programs and their rule stores.
pub mod ClassWord
pub mod RuleTests
pub mod RuleStores
pub mod StoredRules
pub mod RuleLists
pub mod Marks
pub mod RulePlace
pub mod Parts
pub mod Climbing
pub mod StoreHeader
pub mod RuleStoreClauses
