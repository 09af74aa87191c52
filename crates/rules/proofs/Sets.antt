-- Sets as numbers: equal members make equal numbers, cutting down, and the number of a list of answers.
use Prim.Native.Nat.{ℕ, zero, suc, ◌+◌, ◌-◌, ◌*◌, ◌/◌, ◌%◌, ◌^◌, ◌≤◌, ◌<◌}
use native.Mathlib.Omega.{arith}
use native.Mathlib.Nat.{div-one, div-eq_of_lt}
use native.Mathlib.Decide.{dec_le, dec_lt}
use mathlib.Core.Path.{◌≡◌, refl, sym, ap, subst, ◌∙◌}
use mathlib.Core.List.{List, [], ◌∷◌, map}
use mathlib.Core.Bool.{Bool, true, false}
use mathlib.Core.Logic.{◌⊎◌, inl, inr}
use lib.Dec.{T, eqb, eqb→eq}
use lib.Pow.{shr-shr, field, mod-mod-pow, pow_mono}
use lib.ListN.{length, get_or, length-map}
use Rattle.rules.specs.Lists.{from}
use Rattle.rules.specs.Sets.{has}
use Rattle.rules.proofs.Booleans.{decide, T_of, eq_to_eqb}
use Rattle.rules.proofs.Lists.{length_from, map_from_at}

-- the tests of two digits are equal only if the digits are
digit_inj : (a b : ℕ) → a < 2 → b < 2 → eqb a 1 ≡ eqb b 1 → a ≡ b
digit_inj a b la lb e = step (decide (eqb a 1))
  where
    other : T (eqb a 1) → a ≡ b
    other h = let p : a ≡ 1 = eqb→eq a 1 h in let q : b ≡ 1 = eqb→eq b 1 (T_of e h) in omega arith

    step : T (eqb a 1) ⊎ (T (eqb a 1) → ⊥) → a ≡ b
    step (inl h) = other h
    step (inr h) =
        let p : (a ≡ 1) → ⊥ = λ k. h (eq_to_eqb a 1 k) in
        let q : (b ≡ 1) → ⊥ = λ k. h (T_of (sym e) (eq_to_eqb b 1 k)) in
        omega arith

pub has_zero : (x : ℕ) → has x 0 ≡ eqb (x % 2) 1
has_zero x = ap (λ (y : ℕ). eqb (y % 2) 1) (div-one x)

pub has_suc : (x i : ℕ) → has x (suc i) ≡ has (x / 2) i
has_suc x i = ap (λ (y : ℕ). eqb (y % 2) 1) (sym (shr-shr x 1 i ∙ ap (λ (j : ℕ). x / 2 ^ j) (omega arith)))

digit_le : (a b : ℕ) → a < 2 → b < 2 → (T (eqb a 1) → T (eqb b 1)) → a ≤ b
digit_le a b la lb f = step (decide (eqb a 1))
  where
    step : T (eqb a 1) ⊎ (T (eqb a 1) → ⊥) → a ≤ b
    step (inl h) = let q : b ≡ 1 = eqb→eq b 1 (f h) in omega arith
    step (inr h) = let p : (a ≡ 1) → ⊥ = λ k. h (eq_to_eqb a 1 k) in omega arith

-- two sets below 2^n with the same members are one
pub same_set : (n x y : ℕ) → x < 2 ^ n → y < 2 ^ n → ((i : ℕ) → i < n → has x i ≡ has y i) → x ≡ y
same_set zero x y lx ly h = omega arith
same_set (suc n) x y lx ly h =
    let low : x % 2 ≡ y % 2 = digit_inj (x % 2) (y % 2) (omega arith) (omega arith) (sym (has_zero x) ∙ h 0 (omega arith) ∙ has_zero y) in
    let high : x / 2 ≡ y / 2 = same_set n (x / 2) (y / 2) (omega arith) (omega arith) (λ i l. sym (has_suc x i) ∙ h (suc i) (omega arith) ∙ has_suc y i) in
    omega arith

-- cutting x down to the atoms below n
pub cut_has : (x n i : ℕ) → i < n → has (x % 2 ^ n) i ≡ has x i
cut_has x n i l = subst (λ (c : ℕ). has (x % 2 ^ c) i ≡ has x i) whole (ap (λ (y : ℕ). eqb y 1) (ap (λ (y : ℕ). y % 2) (field x (n - suc i + 1) i) ∙ mod-mod-pow (x / 2 ^ i) (n - suc i) 1))
  where
    whole : n - suc i + 1 + i ≡ n
    whole = omega arith

-- the number of a list of answers
abbrev pub digit : Bool → ℕ
digit true = 1
digit false = 0

abbrev pub number : List Bool → ℕ
number [] = 0
number (b ∷ bs) = digit b + 2 * number bs

digit_lt : (b : Bool) → digit b < 2
digit_lt true = omega arith
digit_lt false = omega arith

pub number_lt : (bs : List Bool) → number bs < 2 ^ length bs
number_lt [] = omega arith
number_lt (b ∷ bs) = let h : digit b + 2 * number bs < 2 ^ suc (length bs) = omega (arith, number_lt bs, digit_lt b) in h

digit_test : (b : Bool) → eqb (digit b) 1 ≡ b
digit_test true = refl
digit_test false = refl

-- one digit in front of the others
pub first_digit : (b : Bool) (z : ℕ) → has (digit b + 2 * z) 0 ≡ b
first_digit b z =
    let e : (digit b + 2 * z) % 2 ≡ digit b = omega (arith, digit_lt b) in
    has_zero (digit b + 2 * z) ∙ ap (λ (y : ℕ). eqb y 1) e ∙ digit_test b

pub later_digits : (b : Bool) (z i : ℕ) → has (digit b + 2 * z) (suc i) ≡ has z i
later_digits b z i =
    let e : (digit b + 2 * z) / 2 ≡ z = omega (arith, digit_lt b) in
    has_suc (digit b + 2 * z) i ∙ ap (λ (y : ℕ). has y i) e

pub has_number : (b : Bool) (bs : List Bool) (i : ℕ) → i < length bs → has (number bs) i ≡ get_or bs i b
has_number b [] i l = absurd (omega arith)
has_number b (x ∷ bs) zero l = first_digit x (number bs)
has_number b (x ∷ bs) (suc i) l = later_digits x (number bs) i ∙ has_number b bs i (omega arith)

-- the set of the atoms below n that pass a test
pub set_of_lem : (n : ℕ) (t : ℕ → Bool) → (x : ℕ) × (x < 2 ^ n) × ((a : ℕ) → a < n → has x a ≡ t a)
set_of_lem n t = (
  number (map t (from 0 n)),
  subst (λ (c : ℕ). number (map t (from 0 n)) < 2 ^ c) size (number_lt (map t (from 0 n))),
  λ a l. has_number (t 0) (map t (from 0 n)) a (omega (arith, size)) ∙ map_from_at t (t 0) 0 n a l ∙ ap t (omega arith),
)
  where
    size : length (map t (from 0 n)) ≡ n
    size = length-map (from 0 n) t ∙ length_from 0 n

pub lt_pow : (i : ℕ) → i < 2 ^ i
lt_pow zero = omega arith
lt_pow (suc i) = let h : suc i < 2 ^ suc i = omega (arith, lt_pow i) in h

-- a set's number is at least 2 ^ i for each atom i in it
pub has_above : (x i : ℕ) → T (has x i) → 2 ^ i ≤ x
has_above x i h = step (dec_le (2 ^ i) x)
  where
    step : Dec (2 ^ i ≤ x) → 2 ^ i ≤ x
    step (yes l) = l
    step (no l) =
        let z : x / 2 ^ i ≡ 0 = div-eq_of_lt (omega arith) in
        let q : x / 2 ^ i % 2 ≡ 0 = ap (λ (y : ℕ). y % 2) z in
        let d : x / 2 ^ i % 2 ≡ 1 = eqb→eq (x / 2 ^ i % 2) 1 h in
        absurd (omega arith)

pub has_lt : (x i : ℕ) → T (has x i) → i < x
has_lt x i h = omega (arith, has_above x i h, lt_pow i)

-- and a set below 2 ^ n has members below n only
pub has_below : (n x i : ℕ) → x < 2 ^ n → T (has x i) → i < n
has_below n x i l h = step (dec_lt i n)
  where
    step : Dec (i < n) → i < n
    step (yes u) = u
    step (no u) = let big : 2 ^ n ≤ 2 ^ i = pow_mono (omega arith) in absurd (omega (arith, has_above x i h))

-- two sets with the same members are one
pub set_ext : (x y : ℕ) → ((i : ℕ) → has x i ≡ has y i) → x ≡ y
set_ext x y h = same_set (x + y) x y (omega (arith, lt_pow (x + y))) (omega (arith, lt_pow (x + y))) (λ i l. h i)

-- a subset has no greater number
pub subset_le : (k x m : ℕ) → x < 2 ^ k → ((i : ℕ) → T (has x i) → T (has m i)) → x ≤ m
subset_le zero x m l h = omega arith
subset_le (suc k) x m l h =
    let high : x / 2 ≤ m / 2 = subset_le k (x / 2) (m / 2) (omega arith) (λ i t. T_of (has_suc m i) (h (suc i) (T_of (sym (has_suc x i)) t))) in
    let low : x % 2 ≤ m % 2 = digit_le (x % 2) (m % 2) (omega arith) (omega arith) (λ t. T_of (has_zero m) (h 0 (T_of (sym (has_zero x)) t))) in
    omega arith
