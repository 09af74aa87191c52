-- The key of a rule, and entries by it.
pub mod RuleKey
