-- The rules that a table of connectives stands for.
pub mod TableRules
