-- A condition's parts at their places.
pub mod ConditionForms
