-- A condition's line, step by step.
pub mod ConditionSteps
pub mod AddedCondition
