-- The laws of a flip.
pub mod RuleBroken
pub mod FlippedSets
pub mod RisingLoop
pub mod IndexCounts
pub mod RisingTails
pub mod RuleRuns
pub mod JoinLoop
pub mod FlipAnswer
pub mod FlipRoom
pub mod FlipFaults
