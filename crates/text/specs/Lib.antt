-- The text of a program, and what writing it leaves.
pub mod Text
pub mod ClassRuns
pub mod Items
pub mod PlacedNames
pub mod Sources
