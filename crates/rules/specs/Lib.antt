-- The theory, once for every crate: sets as numbers, rules, models, the reduct, stable and preferred sets; a class cut in two, atoms renumbered.
pub mod Lists
pub mod Sets
pub mod Rules
pub mod Stable
pub mod Preferred
pub mod CutClass
pub mod Renumbering
