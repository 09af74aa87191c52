-- The masks of the rules in groups by their last atom.
pub mod Groups
pub mod GroupSizes
pub mod Plans
