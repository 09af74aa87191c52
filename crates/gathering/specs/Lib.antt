-- What the scratch stores say of the lines so far.
pub mod Gathered
