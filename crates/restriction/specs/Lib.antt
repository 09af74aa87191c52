-- Programs over some of their atoms.
pub mod Atoms
pub mod Remaining
pub mod Covers
pub mod PreferredLeft
