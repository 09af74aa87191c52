-- The first broken rule is one of the rules, or none.
use Prim.Native.Nat.{ℕ, suc, ◌≤◌}
use mathlib.Core.Bool.{Bool, true, false, not}
use mathlib.Core.List.{List, [], ◌∷◌}
use native.Mathlib.Omega.{arith}
use lib.Dec.{eqb}
use lib.Bits.{bit_and}
use lib.ListN.{length}
use Rattle.rules.specs.Rules.{count_if}
use Rattle.masks.specs.Masks.{first_m}

pub first_le : (s : ℕ) (cs ws : List ℕ) → first_m s cs ws ≤ length cs
unfolding first_m
first_le s [] ws = omega arith
first_le s (c ∷ cs) [] = omega arith
first_le s (c ∷ cs) (w ∷ ws) = step (not (eqb (bit_and s c) w)) (first_le s cs ws)
  where
    step : (b : Bool) → first_m s cs ws ≤ length cs → count_if b (first_m s cs ws) ≤ suc (length cs)
    step true h = omega arith
    step false h = omega arith
