-- The laws of the theory.
pub mod Booleans
pub mod Connectives
pub mod Lists
pub mod Filtered
pub mod ListLaws
pub mod MappedLists
pub mod Sets
pub mod Rules
pub mod Stable
pub mod Preferred
pub mod Lacking
pub mod CutClass
pub mod Renumbering
pub mod CutExamples
pub mod Examples
