-- The laws of what is left of the two stores.
pub mod Leaving
pub mod HeldRules
pub mod Tabling
pub mod LeftStores
pub mod Filling
pub mod ByKind
