-- What a condition's line adds to what is gathered.
pub mod ConditionLine
