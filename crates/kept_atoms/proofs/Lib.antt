-- The laws of the atoms that a declaring line adds.
pub mod KeptAtoms
