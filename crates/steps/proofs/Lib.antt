-- The laws of the steps.
pub mod StepLaws
pub mod ClassSteps
