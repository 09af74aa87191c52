-- The laws of an index read along its rules.
pub mod Checked
pub mod Comparing
pub mod Deciding
pub mod Each
pub mod Finding
pub mod Passing
pub mod Reading
pub mod SameIndex
