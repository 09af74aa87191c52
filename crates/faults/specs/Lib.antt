-- What the documents say of each refusal, and of the line that it is answered with.
pub mod NameForms
pub mod Conditions
pub mod LineForms
pub mod TextLines
pub mod Sentences
pub mod EarliestFault
pub mod LineOrder
