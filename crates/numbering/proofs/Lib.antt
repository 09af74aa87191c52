-- The laws of entering and finding names.
pub mod HashedNames
pub mod NameNumbers
pub mod RuleLists
pub mod NewNames
pub mod Entering
pub mod NameBlocks
