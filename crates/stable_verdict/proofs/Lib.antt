-- The laws of the reduct, its marks and its verdict.
pub mod MarkLoops
pub mod ReductFill
pub mod KeptRules
