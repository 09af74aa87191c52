-- The laws of the listing.
pub mod ListedStates
pub mod StoredStates
