-- A text in an output.
pub mod Fitted
