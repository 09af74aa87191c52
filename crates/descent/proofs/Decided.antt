-- One more atom decided, out or in.
use Prim.Native.Nat.{ℕ, zero, suc, ◌^◌, ◌<◌}
use mathlib.Core.Path.{◌≡◌, refl, ◌∙◌}
use mathlib.Core.Bool.{Bool, true, false}
use native.Mathlib.Omega.{arith}
use Rattle.rules.specs.Sets.{has}
use Rattle.places.specs.Places.{place}
use Rattle.places.proofs.Places.{place_zero, place_suc}
use Rattle.choices.proofs.MoreAtoms.{top_out, top_in, low_in, wide_out, wide_in}
use Rattle.descent.specs.Visits.{decide}

module _ (d x : ℕ) (h : x < 2 ^ d) where
  pub decided_wide : (v : Bool) → decide d v x < 2 ^ suc d
  decided_wide true = wide_in d x h
  decided_wide false = wide_out d x h

  pub decided_top : (v : Bool) → has (decide d v x) d ≡ v
  decided_top true = top_in d x h
  decided_top false = top_out d x h

  pub decided_low : (v : Bool) (a : ℕ) → a < d → has (decide d v x) a ≡ has x a
  decided_low true a l = low_in d x a h l
  decided_low false a l = refl

-- with none in
pub place_none : (n : ℕ) → place n 0 ≡ 0
place_none zero = place_zero 0
place_none (suc n) = place_suc n 0 ∙ (omega (arith, place_none n))
