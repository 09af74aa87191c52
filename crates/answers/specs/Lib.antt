-- What the entry points answer, write and print, and which refusals they give.
pub mod Reading
pub mod ReadsAs
pub mod ReadingClauses
pub mod Writing
pub mod WritingCanonical
pub mod Translating
pub mod Printed
pub mod Listed
pub mod NextInside
pub mod PrintedStates
pub mod Programs
pub mod Refusals
pub mod Indexing
pub mod Judged
