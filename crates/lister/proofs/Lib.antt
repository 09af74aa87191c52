-- The laws of the next state.
pub mod FromStart
pub mod NextStates
pub mod FilledNext
pub mod NextInside
