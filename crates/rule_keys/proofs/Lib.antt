-- The laws that the proofs of `rule_keys` cite, and that keys go by the order of the rules.
pub mod KeyOrder
pub mod FillLoop
pub mod EntryLoop
