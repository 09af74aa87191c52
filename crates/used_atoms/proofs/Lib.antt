-- The laws of marking and numbering.
pub mod Marking
pub mod Numbering
pub mod RuleParts
