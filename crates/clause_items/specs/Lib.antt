-- What the code finds at a place of a line.
pub mod Found
