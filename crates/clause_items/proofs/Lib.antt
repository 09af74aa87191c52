-- The laws of items, numbers and headers.
pub mod CappedLaws
pub mod Gaps
pub mod Digits
pub mod FoundNumbers
pub mod Signs
pub mod FirstItems
pub mod ItemLaws
pub mod HeaderLaws
