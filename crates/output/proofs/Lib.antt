-- The laws of writing into an output.
pub mod Emitting
pub mod Copying
