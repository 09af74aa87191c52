-- The laws that the proofs of `tidying` cite.
pub mod RisingLists
pub mod ListParts
pub mod TidyLoop
