-- The lowest member of a mask.
use Prim.Native.Nat.{ℕ, zero, suc, ◌/◌, ◌%◌, ◌^◌, ◌≤◌, ◌<◌}
use mathlib.Core.Path.{◌≡◌, refl, sym, ap, ◌∙◌}
use mathlib.Core.Bool.{false}
use native.Mathlib.Nat.{pow-suc}
use native.Mathlib.Omega.{arith}
use lib.Dec.{T, eqb}
use lib.Count.{count_trailing_zeros, under}
use Rattle.rules.specs.Sets.{has}
use Rattle.rules.proofs.Booleans.{T_of, eq_to_eqb}
use Rattle.rules.proofs.Sets.{has_zero, has_suc}

even_out : (m : ℕ) → m % 2 ≡ 0 → has m 0 ≡ false
even_out m e = has_zero m ∙ ap (λ (y : ℕ). eqb y 1) e

pub lowest_least : (k m i : ℕ) → T (has m i) → count_trailing_zeros k m ≤ i
unfolding count_trailing_zeros
lowest_least zero m i h = omega arith
lowest_least (suc k) m i h = step (m % 2) refl i h (λ j t. lowest_least k (m / 2) j t)
  where
    step : (d : ℕ) → m % 2 ≡ d → (i : ℕ) → T (has m i) → ((j : ℕ) → T (has (m / 2) j) → count_trailing_zeros k (m / 2) ≤ j) → under d (count_trailing_zeros k (m / 2)) ≤ i
    step zero e zero t r = absurd (T_of (even_out m e) t)
    step zero e (suc i) t r = omega (arith, r i (T_of (has_suc m i) t))
    step (suc d) e i t r = omega arith

lowest_in : (k m i : ℕ) → i < k → T (has m i) → T (has m (count_trailing_zeros k m))
unfolding count_trailing_zeros
lowest_in zero m i l h = absurd (omega arith)
lowest_in (suc k) m i l h = step (m % 2) refl i l h (λ j u t. lowest_in k (m / 2) j u t)
  where
    step : (d : ℕ) → m % 2 ≡ d → (i : ℕ) → i < suc k → T (has m i) → ((j : ℕ) → j < k → T (has (m / 2) j) → T (has (m / 2) (count_trailing_zeros k (m / 2)))) → T (has m (under d (count_trailing_zeros k (m / 2))))
    step zero e zero l t r = absurd (T_of (even_out m e) t)
    step zero e (suc i) l t r = T_of (sym (has_suc m (count_trailing_zeros k (m / 2)))) (r i (omega arith) (T_of (has_suc m i) t))
    step (suc d) e i l t r = T_of (sym (has_zero m)) (eq_to_eqb (m % 2) 1 (omega arith))

pub lowest_is : (k m i : ℕ) → i < k → T (has m i) → ((j : ℕ) → T (has m j) → i ≤ j) → count_trailing_zeros k m ≡ i
lowest_is k m i l h low = omega (arith, lowest_least k m i h, low (count_trailing_zeros k m) (lowest_in k m i l h))

pub lowest_below : (k n m : ℕ) → 0 < m → m < 2 ^ n → count_trailing_zeros k m < n
unfolding count_trailing_zeros
lowest_below k zero m p l = absurd (omega arith)
lowest_below zero (suc n) m p l = omega arith
lowest_below (suc k) (suc n) m p l = step (m % 2) refl (λ e. lowest_below k n (m / 2) (omega arith) (omega (arith, pow-suc 2 n)))
  where
    step : (d : ℕ) → m % 2 ≡ d → (m % 2 ≡ 0 → count_trailing_zeros k (m / 2) < n) → under d (count_trailing_zeros k (m / 2)) < suc n
    step zero e r = omega (arith, r e)
    step (suc d) e r = omega arith
