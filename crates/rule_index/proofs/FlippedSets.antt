-- A flipped set: its number, and which atoms it has.
use Prim.Native.Nat.{ℕ, zero, suc, ◌+◌, ◌-◌, ◌*◌, ◌/◌, ◌%◌, ◌^◌, ◌≤◌, ◌<◌}
use mathlib.Core.Path.{◌≡◌, refl, sym, ap, ◌∙◌}
use mathlib.Core.Logic.{◌≢◌}
use mathlib.Core.Bool.{Bool, true, false, not, cond}
use native.Mathlib.Omega.{arith}
use lib.Dec.{T, eqb}
use Rattle.rules.specs.Sets.{has}
use Rattle.rules.proofs.Booleans.{T_of, T-not-in, T-not-out}
use Rattle.rules.proofs.Sets.{digit, has_zero, has_suc, has_above, first_digit, later_digits}
use Rattle.rule_index.specs.Flip.{flipped}
use Rattle.rule_index.specs.Meanings.{Flipped}

-- the digit of atom 0

small_digit : (d : ℕ) → d < 2 → digit (eqb d 1) ≡ d
small_digit zero l = refl
small_digit (suc zero) l = refl
small_digit (suc (suc d)) l = absurd (omega arith)

low_digit : (x : ℕ) → digit (has x 0) ≡ x % 2
low_digit x = ap digit (has_zero x) ∙ small_digit (x % 2) (omega arith)

-- the flip by digits
flipped_zero : (x : ℕ) → flipped x 0 ≡ digit (not (has x 0)) + 2 * (x / 2)
unfolding flipped
flipped_zero x = step (has x 0) (low_digit x)
  where
    step : (b : Bool) → digit b ≡ x % 2 → cond b (x - 2 ^ 0) (x + 2 ^ 0) ≡ digit (not b) + 2 * (x / 2)
    step true e = omega arith
    step false e = omega arith

flipped_suc : (x a : ℕ) → flipped x (suc a) ≡ digit (has x 0) + 2 * flipped (x / 2) a
unfolding flipped
flipped_suc x a = ap (λ (b : Bool). cond b (x - 2 ^ suc a) (x + 2 ^ suc a)) (has_suc x a) ∙ step (has (x / 2) a) (has_above (x / 2) a) (low_digit x)
  where
    step : (b : Bool) → (T b → 2 ^ a ≤ x / 2) → digit (has x 0) ≡ x % 2 → cond b (x - 2 ^ suc a) (x + 2 ^ suc a) ≡ digit (has x 0) + 2 * cond b (x / 2 - 2 ^ a) (x / 2 + 2 ^ a)
    step true l e = omega (arith, l tt)
    step false l e = omega arith

pub flipped_own : (x a : ℕ) → has (flipped x a) a ≡ not (has x a)
flipped_own x zero = ap (λ (y : ℕ). has y 0) (flipped_zero x) ∙ first_digit (not (has x 0)) (x / 2)
flipped_own x (suc a) = ap (λ (y : ℕ). has y (suc a)) (flipped_suc x a) ∙ later_digits (has x 0) (flipped (x / 2) a) a ∙ flipped_own (x / 2) a ∙ ap not (sym (has_suc x a))

pub flipped_other : (x a b : ℕ) → b ≢ a → has (flipped x a) b ≡ has x b
flipped_other x zero zero n = absurd (n refl)
flipped_other x zero (suc b) n = ap (λ (y : ℕ). has y (suc b)) (flipped_zero x) ∙ later_digits (not (has x 0)) (x / 2) b ∙ sym (has_suc x b)
flipped_other x (suc a) zero n = ap (λ (y : ℕ). has y 0) (flipped_suc x a) ∙ first_digit (has x 0) (flipped (x / 2) a)
flipped_other x (suc a) (suc b) n =
    ap (λ (y : ℕ). has y (suc b)) (flipped_suc x a) ∙ later_digits (has x 0) (flipped (x / 2) a) b
    ∙ flipped_other (x / 2) a b (λ e. n (ap suc e)) ∙ sym (has_suc x b)

pub is_flipped : (x a : ℕ) → Flipped a x (flipped x a)
is_flipped x a = record {
  taken = (λ h. T-not-out (has x a) (T_of (flipped_own x a) h), λ h. T_of (sym (flipped_own x a)) (T-not-in (has x a) h));
  kept = λ b n. (T_of (flipped_other x a b n), T_of (sym (flipped_other x a b n)));
}

digit_small : (b : Bool) → digit b < 2
digit_small true = omega arith
digit_small false = omega arith

pub flipped_lt : (n x a : ℕ) → x < 2 ^ n → a < n → flipped x a < 2 ^ n
flipped_lt zero x a l u = absurd (omega arith)
flipped_lt (suc n) x zero l u = omega (arith, flipped_zero x, digit_small (not (has x 0)))
flipped_lt (suc n) x (suc a) l u = omega (arith, flipped_suc x a, digit_small (has x 0), flipped_lt n (x / 2) a (omega arith) (omega arith))
