-- The laws of the scratch stores and of a rule's step.
pub mod KeptRules
pub mod HeldState
pub mod DeclaredNames
pub mod RuleSteps
