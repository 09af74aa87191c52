-- The order of the sets of n atoms.
pub mod Places
