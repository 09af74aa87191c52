-- What the scratch stores leave in the two outputs.
pub mod Delivered
