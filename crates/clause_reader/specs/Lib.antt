-- What the lines of a clause file leave in the scratch.
pub mod Reading
pub mod Later
