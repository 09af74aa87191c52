-- The laws of texts and of writing them.
pub mod PlaceTable
pub mod FilledTable
pub mod AtomItems
pub mod RuleItems
pub mod RuleLoop
pub mod ClassItems
pub mod TextParts
pub mod ClassWords
pub mod TextLength
