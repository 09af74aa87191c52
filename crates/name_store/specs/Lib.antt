-- The name store and its index.
pub mod NameStore
pub mod NameIndex
pub mod IndexedNames
