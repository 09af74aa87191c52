-- Laws of clause files.
pub mod ClauseExamples
pub mod Tests
pub mod ClauseNames
pub mod HeadedLines
pub mod ClauseForms
pub mod RenamedRules
pub mod ClauseRules
pub mod Satisfying
pub mod LineTests
pub mod HeaderSentences
pub mod LineSentences
pub mod ItemSentences
pub mod TokenSentences
pub mod ClauseSentences
