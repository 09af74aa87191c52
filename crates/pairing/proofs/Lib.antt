-- The laws of the translation.
pub mod Quantified
pub mod Fit
pub mod Asked
pub mod Numbering
pub mod NumberedSets
pub mod Renamed
pub mod FullSet
pub mod StablePreferred
pub mod PreferredStable
pub mod Closed
pub mod Paired
pub mod SumLaws
pub mod Sums
pub mod PlainForm
pub mod Looped
pub mod PlainNames
pub mod Examples
