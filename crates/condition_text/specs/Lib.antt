-- What a text states, and that its states are those of its conditions read directly.
pub mod Statements
pub mod ReadDirectly
