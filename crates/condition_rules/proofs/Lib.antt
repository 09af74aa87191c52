-- The laws of writing a condition's rules.
pub mod RowRules
pub mod ConditionTables
