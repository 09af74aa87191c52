-- The laws of the steps over the rules.
pub mod RuleSteps
pub mod Woven
