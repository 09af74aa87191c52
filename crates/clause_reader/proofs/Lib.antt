-- The laws of reading clause files.
pub mod TokenSteps
pub mod LaterSteps
pub mod ClauseSteps
pub mod LineWalk
pub mod FileLines
pub mod TextWalk
pub mod WholeFile
