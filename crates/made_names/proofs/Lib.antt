-- The laws of the names of made atoms.
pub mod NamesPut
pub mod NextNames
