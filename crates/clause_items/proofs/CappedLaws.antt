-- Numbers up to the largest: capping at each digit is capping at the end, and a limit below the largest does not see it.
use Prim.Native.Nat.{ℕ, ◌+◌, ◌-◌, ◌*◌, ◌<◌, ◌≤◌}
use native.Mathlib.Omega.{arith}
use native.Mathlib.Decide.{dec_lt}
use mathlib.Core.Path.{◌≡◌, sym, ap, ◌∙◌}
use mathlib.Core.List.{List, [], ◌∷◌}
use mathlib.Core.Logic.{◌⊎◌, inl, inr, ⊎_elim, ◌↔◌}
use borrow.Author.Tests.{lt-ltb, le-ltb}
use Rattle.names.specs.Numerals.{value_from}
use Rattle.clause_items.specs.Found.{largest, capped}

capped_is : (v : ℕ) → ((v < largest) × (capped v ≡ v)) ⊎ ((largest ≤ v) × (capped v ≡ largest))
capped_is v = go (dec_lt v largest)
  where
    go : Dec (v < largest) → ((v < largest) × (capped v ≡ v)) ⊎ ((largest ≤ v) × (capped v ≡ largest))
    go (yes h) = inl (h, simp (lt-ltb v largest h))
    go (no h) = let k : largest ≤ v = omega arith in inr (k, simp (le-ltb v largest k))

module _ (v : ℕ) where
  pub capped_le : capped v ≤ largest
  capped_le = ⊎_elim (λ h. omega arith) (λ h. omega arith) (capped_is v)

  -- a small number is itself
  pub capped_small : v ≤ largest → capped v ≡ v
  capped_small l = ⊎_elim (λ h. h.1) (λ h. omega arith) (capped_is v)

  pub capped_same : capped v < largest → capped v ≡ v
  capped_same l = ⊎_elim (λ h. h.1) (λ h. omega arith) (capped_is v)

  -- past a limit is past a limit
  pub capped_over : (n : ℕ) → n < largest → n < capped v ↔ n < v
  capped_over n l = (λ k. ⊎_elim (λ h. omega arith) (λ h. omega arith) (capped_is v), λ k. ⊎_elim (λ h. omega arith) (λ h. omega arith) (capped_is v))

  capped_step : (d : ℕ) → capped (10 * capped v + d) ≡ capped (10 * v + d)
  capped_step d = ⊎_elim (λ h. ap (λ (n : ℕ). capped (10 * n + d)) h.1) (λ h. capped_full (10 * capped v + d) (omega arith) ∙ sym (capped_full (10 * v + d) (omega arith))) (capped_is v)
    where
      capped_full : (w : ℕ) → largest ≤ w → capped w ≡ largest
      capped_full w l = ⊎_elim (λ h. omega arith) (λ h. h.1) (capped_is w)

pub capped_digits : (v : ℕ) (x : List ℕ) → capped (value_from (capped v) x) ≡ capped (value_from v x)
capped_digits v [] = capped_small (capped v) (capped_le v)
capped_digits v (b ∷ x) =
    sym (capped_digits (10 * capped v + (b - 48)) x)
    ∙ ap (λ (n : ℕ). capped (value_from n x)) (capped_step v (b - 48))
    ∙ capped_digits (10 * v + (b - 48)) x
