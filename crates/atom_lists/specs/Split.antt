-- A list of atoms split in two: those below a number, and those from it on.
use Rattle.std.specs.Prelude.{ℕ, ◌+◌, ◌≤◌, ◌<◌, List, length}
use Rattle.std.proofs.lemmas.List.Edits.{sets}
use Rattle.rules.specs.Lists.{All, filter}
use Rattle.pairing.specs.Loops.{below, beyond}
use Rattle.output.specs.Emitted.{InRange}
use Rattle.atom_lists.specs.ListWords.{each, raised}
use Rattle.atom_lists.specs.declared.split.Split.{Split}

-- how many atoms of a list are below the end
unfoldable pub count_below : ℕ → List ℕ → ℕ
count_below end xs = length (filter (below end) xs)

module _ (split : Split) where
  -- the atoms below the end, and the others, each raised
  unfoldable pub lows : List ℕ → List ℕ
  lows xs = each (raised (below split.end) split.low) xs

  unfoldable pub highs : List ℕ → List ℕ
  highs xs = each (raised (beyond split.end) split.high) xs

  -- the output with the two parts, each written from its place on
  unfoldable pub split_into : List ℕ → List ℕ → ℕ → ℕ → List ℕ
  split_into before xs at behind = sets (sets before at (lows xs)) behind (highs xs)

  -- there is a place for each part, and the numbers are inside the limits
  pub record SplitFits (xs : List ℕ) (at behind : ℕ) : Type 0 where
    pub atoms : All (λ a. a < 256) xs
    pub shifts : (split.low ≤ 1100) × (split.high ≤ 1100)
    pub apart : at + length (lows xs) ≤ behind
    pub range : InRange behind (highs xs)
