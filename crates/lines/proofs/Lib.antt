-- The laws of lines and their forms.
pub mod Scanning
pub mod TokenPlaces
pub mod BracketPlaces
pub mod TokenCuts
pub mod LineBlocks
pub mod LinePlaces
pub mod NameLists
pub mod LineShapes
pub mod ConditionLines
pub mod Parsing
