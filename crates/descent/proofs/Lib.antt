-- The laws of the descent.
pub mod Told
pub mod Terms
pub mod SameSearches
pub mod Loops
pub mod VerdictsTold
pub mod Decided
pub mod Searched
pub mod ChoiceMasks
pub mod GroupedRules
pub mod AllowedValues
pub mod JudgedChoices
pub mod PreferredMasks
pub mod StableMasks
pub mod FilledGroups
