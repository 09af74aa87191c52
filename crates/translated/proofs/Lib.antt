-- The laws of the translation's stores.
pub mod StoreWords
pub mod FileStore
pub mod NameLaws
pub mod FileNames
