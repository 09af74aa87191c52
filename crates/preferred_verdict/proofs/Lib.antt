-- The verdict by filled and sorted masks.
pub mod FilledVerdict
