-- The laws that the proofs of `entry_sort` cite.
pub mod RunLoop
pub mod EqualRuns
