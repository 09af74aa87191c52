-- The laws of masks, and of a call's checks.
pub mod Bits
pub mod MaskBits
pub mod RuleMasks
pub mod ClassMasks
pub mod MaskSizes
pub mod MaskLoops
pub mod Unions
pub mod BrokenRules
pub mod RulesFill
pub mod ClassFill
pub mod AnswersAt
pub mod RulesAt
pub mod CheckedStore
pub mod FilledMasks
pub mod Guarding
