-- Where the counts stand in an index.
use Rattle.std.specs.Prelude.{ℕ, ◌<◌, List, length}
use Rattle.rule_index.specs.Places.{list_at}

-- the counts of the atoms before a are there
pub record Counts (ws : List ℕ) (a : ℕ) : Type 0 where
  pub inside : (b : ℕ) → b < a → list_at ws b < length ws
