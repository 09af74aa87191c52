-- The laws that the proofs of `canonical_store` cite.
pub mod KeptLoop
pub mod StoreParts
pub mod SortedStores
