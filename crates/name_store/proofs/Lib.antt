-- The laws of the name store and of its index.
pub mod NameStores
pub mod ByteLoops
pub mod NamePlaces
pub mod NameChains
pub mod NameEntries
pub mod NumberedNames
pub mod NameClauses
