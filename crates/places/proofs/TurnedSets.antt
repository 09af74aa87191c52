-- The bits of a number, turned round: those of its first atoms are a place.
use Prim.Native.Nat.{ℕ, zero, suc, ◌+◌, ◌-◌, ◌*◌, ◌/◌, ◌%◌, ◌^◌, ◌≤◌, ◌<◌}
use mathlib.Core.Path.{◌≡◌, sym, ap, ◌∙◌}
use mathlib.Core.Bool.{Bool, true, false, cond}
use native.Mathlib.Omega.{arith}
use native.Mathlib.Nat.{add-zero, add-suc, mul_assoc, mul_comm, add-mul, pow-suc, div-one}
use lib.Dec.{eqb}
use lib.Pow.{shr-shr}
use Rattle.std.specs.Int.{reverse_bits_onto}
use Rattle.rules.specs.Sets.{has}
use Rattle.rules.proofs.Sets.{digit}
use Rattle.places.specs.Places.{place}
use Rattle.places.proofs.Places.{place_zero, place_suc, place_last}

-- the lowest bit, as it weighs
low_bit : (w k : ℕ) → k < 2 → k * w ≡ cond (eqb k 1) w 0
low_bit w zero l = omega arith
low_bit w (suc zero) l = omega arith
low_bit w (suc (suc k)) l = absurd (omega arith)

reversed_onto : (k x a : ℕ) → reverse_bits_onto k x a ≡ a * 2 ^ k + place k x
unfolding reverse_bits_onto
reversed_onto zero x a = omega (arith, place_zero x)
reversed_onto (suc k) x a =
    let first : x / 2 ^ 0 % 2 ≡ x % 2 = ap (λ (y : ℕ). y % 2) (div-one x) in
    let low : x % 2 * 2 ^ k ≡ cond (has x 0) (2 ^ k) 0 = low_bit (2 ^ k) (x % 2) (omega arith) ∙ ap (λ (b : ℕ). cond (eqb b 1) (2 ^ k) 0) (sym first) in
    let twice : a * 2 * 2 ^ k ≡ a * 2 ^ suc k = mul_assoc a 2 (2 ^ k) ∙ ap (λ (w : ℕ). a * w) (mul_comm 2 (2 ^ k) ∙ sym (pow-suc 2 k)) in
    reversed_onto k (x / 2) (a * 2 + x % 2)
    ∙ omega (arith, place_suc k x, add-mul (a * 2) (x % 2) (2 ^ k))

-- without the last atoms

halved : (n x : ℕ) → place (suc n) x / 2 ≡ place n x
halved n x = go (has x n) (place_last n x)
  where
    go : (b : Bool) → place (suc n) x ≡ digit b + 2 * place n x → place (suc n) x / 2 ≡ place n x
    go true e = omega arith
    go false e = omega arith

cut_off : (m n x : ℕ) → place (n + m) x / 2 ^ m ≡ place n x
cut_off zero n x = div-one (place (n + 0) x) ∙ ap (λ (k : ℕ). place k x) (add-zero n)
cut_off (suc m) n x =
    sym (shr-shr (place (n + suc m) x) 1 m ∙ ap (λ (k : ℕ). place (n + suc m) x / 2 ^ k) (suc_is m))
    ∙ ap (λ (k : ℕ). place k x / 2 / 2 ^ m) (add-suc n m)
    ∙ ap (λ (y : ℕ). y / 2 ^ m) (halved (n + m) x)
    ∙ cut_off m n x
  where
    suc_is : (m : ℕ) → 1 + m ≡ suc m
    suc_is m = omega arith

pub reversed_place : (n x : ℕ) → n ≤ 64 → reverse_bits_onto 64 x 0 / 2 ^ (64 - n) ≡ place n x
reversed_place n x l =
    let e : 64 ≡ n + (64 - n) = omega arith in
    let none : 0 * 2 ^ 64 + place 64 x ≡ place 64 x = omega arith in
    ap (λ (r : ℕ). r / 2 ^ (64 - n)) (reversed_onto 64 x 0 ∙ none ∙ ap (λ (k : ℕ). place k x) e) ∙ cut_off (64 - n) n x
