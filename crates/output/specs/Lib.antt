-- What writing leaves in an output.
pub mod Emitted
