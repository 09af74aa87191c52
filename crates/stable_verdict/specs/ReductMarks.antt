-- The marks of the reduct: "a rule's mark is set exactly when none of its `not` atoms is in M" (document 02, W-204).
use Rattle.std.specs.Prelude.{ℕ, zero, suc, ◌-◌, ◌<◌, ◌↔◌, Bool, true, false, not, List, [], ◌∷◌, ◌++◌, map, T, length, get_or, replicate}
use Rattle.kinds.specs.Limits.{rule_limit}
use Rattle.kinds.specs.declared.limits.Kind.TheVariants.{Plain}
use Rattle.rules.specs.Lists.{All, some}
use Rattle.rules.specs.Sets.{has, Out}
use Rattle.rules.specs.Rules.{Rule, rule}

-- mark i is set exactly when i is the number of a rule none of whose `not` atoms is in m
abbrev pub MarksMean : ℕ → List (Rule ℕ) → List Bool → Type 0
MarksMean m rs marks = (i : ℕ) → T (get_or marks i false) ↔ ((i < length rs) × All (Out (has m)) (get_or rs i (rule [] [] [])).nots)

-- the test
abbrev pub is_keeping : ℕ → Rule ℕ → Bool
is_keeping m r = not (some (has m) r.nots)

-- a place for each rule that a plain program may have
unfoldable pub marks_of : ℕ → List (Rule ℕ) → List Bool
marks_of m rs = map (is_keeping m) rs ++ replicate (rule_limit Plain - length rs) false

-- the place of the set mark that has i set ones before it, or the number of marks
unfoldable pub marked_at : ℕ → List Bool → ℕ
marked_at i [] = 0
marked_at i (false ∷ ms) = suc (marked_at i ms)
marked_at zero (true ∷ ms) = 0
marked_at (suc i) (true ∷ ms) = suc (marked_at i ms)
