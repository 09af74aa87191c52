-- The laws of reading a text line by line, and the round trips.
pub mod Examples
pub mod LineByLine
pub mod WholeText
pub mod StrictLines
pub mod FormText
pub mod NumberedNames
pub mod ClassParts
pub mod UsedNames
pub mod LineSteps
pub mod FormedLines
pub mod PlacedLines
pub mod Delivering
pub mod Progress
pub mod WrittenLines
pub mod SameLines
pub mod RoundTrip
pub mod StatesLeft
