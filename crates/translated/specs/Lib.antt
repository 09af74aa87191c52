-- The stores of a translation.
pub mod PreferenceStore
pub mod NameBytes
