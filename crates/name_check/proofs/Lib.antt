-- The laws of the check of a name store.
pub mod NameChecks
