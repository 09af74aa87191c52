-- The laws of clauses gathered in the scratch, and of their atoms' names.
pub mod HeldGathered
pub mod LiteralMarks
pub mod LiteralSteps
pub mod ClauseSteps
pub mod ClauseNames
pub mod HeldPreference
