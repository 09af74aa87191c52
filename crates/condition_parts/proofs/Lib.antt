-- The laws of reading a condition's parts.
pub mod ConditionLaws
pub mod WordPlaces
pub mod TableRows
pub mod JoinedParts
pub mod NamedParts
