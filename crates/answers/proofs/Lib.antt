-- The laws of the answers, and the refusals proved.
pub mod AcceptedTexts
pub mod ClassWords
pub mod PreferredPrinted
pub mod Refusals
pub mod Readers
pub mod Indexing
pub mod Judged
