-- The search over partial choices, shaped like its code.
pub mod Descent
pub mod Search
pub mod Visits
pub mod Verdicts
