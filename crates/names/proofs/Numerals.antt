-- The numbers without leading zero are exactly the decimal writings.
use Prim.Native.Nat.{ℕ, zero, suc, ◌+◌, ◌-◌, ◌*◌, ◌/◌, ◌%◌, ◌^◌, ◌≤◌, ◌<◌}
use native.Mathlib.Omega.{arith}
use native.Mathlib.Decide.{ℕ_discrete}
use mathlib.Core.Path.{◌≡◌, refl, sym, ap, ap₂, subst, ◌∙◌}
use mathlib.Core.Logic.Iff
use mathlib.Core.Logic.{◌⊎◌, inl, inr, ◌↔◌, ◌≢◌}
use mathlib.Core.List.{List, [], ◌∷◌, ◌++◌, append-nil, append_assoc}
use mathlib.Core.Bool.{Bool, true, cond, not, ◌||◌}
use lib.Dec.{T, eqb, leb, leb→le, eqb→eq}
use lib.ListN.{length, get_or}
use borrow.Author.Tests.{lt-ltb, le-ltb}
use Rattle.kinds.specs.Words.{digits, decimal}
use Rattle.rules.specs.Lists.{All, every, is_empty}
use Rattle.rules.proofs.Booleans.{T_of, is_true_lem, T_and, T-and-l, T-and-r, T-or, T-or-out, T-not-in, T-not-out, eq_to_eqb}
use Rattle.rules.proofs.Lists.{every_all}
use Rattle.names.specs.Numerals.{is_digit, is_numeral, value_from, value, DecimalWriting}
use Rattle.names.proofs.Decimals.{digits_all, digits_below, digits_first, value_digits}

not_empty : {b : ℕ} {s : List ℕ} → b ∷ s ≢ []
not_empty e = let z : ◌≡◌ {A = ℕ} 0 1 = cc in omega arith

all_digits : (x : List ℕ) → T (every is_digit x) ↔ All (λ b. T (is_digit b)) x
all_digits = every_all is_digit (λ b. T (is_digit b)) (λ b. Iff.rfl)

-- a digit's byte
digit_bounds : (b : ℕ) → T (is_digit b) → (48 ≤ b) × (b ≤ 57)
digit_bounds b h = (leb→le 48 b (T-and-l (leb 48 b) (leb b 57) h), leb→le b 57 (T-and-r (leb 48 b) (leb b 57) h))

pub digit_range : (b : ℕ) → is_digit b ≡ true → (48 ≤ b) × (b ≤ 57)
digit_range b e = digit_bounds b (T_of (sym e) tt)

digits_one : (k d : ℕ) → d < 10 → digits (suc k) d ≡ (48 + d) ∷ []
unfolding digits
digits_one k d l = ap (λ (b : Bool). cond b ((48 + d) ∷ []) (digits k (d / 10) ++ ((48 + d % 10) ∷ []))) (lt-ltb d 10 l)

digits_more : (k v b : ℕ) → 1 ≤ v → T (is_digit b) → digits (suc k) (10 * v + (b - 48)) ≡ digits k v ++ (b ∷ [])
unfolding digits
digits_more k v b l h =
    let r = digit_bounds b h in
    let x = 10 * v + (b - 48) in
    let q : x / 10 ≡ v = omega arith in
    let d : 48 + x % 10 ≡ b = omega arith in
    ap (λ (t : Bool). cond t ((48 + x) ∷ []) (digits k (x / 10) ++ ((48 + x % 10) ∷ []))) (le-ltb x 10 (omega arith))
    ∙ ap₂ (λ (y c : ℕ). digits k y ++ (c ∷ [])) q d

-- digits behind a number that is not 0
written_behind : (k v : ℕ) (s : List ℕ) → 1 ≤ v → All (λ b. T (is_digit b)) s → digits (k + length s) (value_from v s) ≡ digits k v ++ s
written_behind k v [] l h = ap (λ (f : ℕ). digits f v) (omega arith) ∙ sym (append-nil (digits k v))
written_behind k v (b ∷ s) l h =
    let e : k + suc (length s) ≡ suc k + length s = omega arith in
    ap (λ (f : ℕ). digits f (value_from (10 * v + (b - 48)) s)) e
    ∙ written_behind (suc k) (10 * v + (b - 48)) s (omega arith) h.1
    ∙ ap (λ (l : List ℕ). l ++ s) (digits_more k v b l h.0)
    ∙ append_assoc (digits k v) (b ∷ []) s

-- no zero first
written_first : (k b : ℕ) (s : List ℕ) → (b ≡ 48 → ⊥) → All (λ b. T (is_digit b)) (b ∷ s) → digits (suc k + length s) (value (b ∷ s)) ≡ b ∷ s
unfolding value
written_first k b s n h =
    let r = digit_bounds b h.0 in
    let e : 10 * 0 + (b - 48) ≡ b - 48 = omega arith in
    let d : 48 + (b - 48) ≡ b = omega arith in
    ap (λ (v : ℕ). digits (suc k + length s) (value_from v s)) e
    ∙ written_behind (suc k) (b - 48) s (omega arith) h.1
    ∙ ap (λ (l : List ℕ). l ++ s) (digits_one k (b - 48) (omega arith))
    ∙ ap (λ (c : ℕ). c ∷ s) d

-- zeros in front are not written
no_longer : (s : List ℕ) (f : ℕ) → s ≢ [] → length s ≤ f → All (λ b. T (is_digit b)) s → length (digits f (value s)) ≤ length s
unfolding value
no_longer [] f n l h = absurd (n refl)
no_longer (b ∷ []) f n l h = at_last f l
  where
    at_last : (f : ℕ) → 1 ≤ f → length (digits f (10 * 0 + (b - 48))) ≤ 1
    at_last zero l = absurd (omega arith)
    at_last (suc f) l = let r = digit_bounds b h.0 in omega (arith, ap length (digits_one f (10 * 0 + (b - 48)) (omega arith)))
no_longer (b ∷ c ∷ s) f n l h = go (ℕ_discrete b 48) (no_longer (c ∷ s) f not_empty (omega arith) h.1)
  where
    go : Dec (b ≡ 48) → length (digits f (value_from 0 (c ∷ s))) ≤ suc (length s) → length (digits f (value_from (10 * 0 + (b - 48)) (c ∷ s))) ≤ suc (suc (length s))
    go (yes e) i = let z : 10 * 0 + (b - 48) ≡ 0 = omega arith in omega (arith, ap (λ (v : ℕ). length (digits f (value_from v (c ∷ s)))) z)
    go (no e) i =
        let k = f - suc (suc (length s)) in
        let q : f ≡ suc k + suc (length s) = omega arith in
        omega (arith, ap (λ (g : ℕ). length (digits g (value_from (10 * 0 + (b - 48)) (c ∷ s)))) q, ap length (written_first k b (c ∷ s) e h))

numeral_written : (x : List ℕ) → T (is_numeral x) → DecimalWriting x
unfolding value
numeral_written [] t = absurd t
numeral_written (b ∷ s) t = (not_empty, go s ((all_digits (b ∷ s)).0 (T-and-l (every is_digit (b ∷ s)) first t)) (T-or-out (not (eqb b 48)) (is_empty s) (T-and-r (every is_digit (b ∷ s)) first t)))
  where
    first : Bool
    first = not (eqb b 48) || is_empty s

    go : (s : List ℕ) → All (λ b. T (is_digit b)) (b ∷ s) → T (not (eqb b 48)) ⊎ T (is_empty s) → b ∷ s ≡ digits (suc (length s)) (value (b ∷ s))
    go s h (inl n) =
        let e : suc 0 + length s ≡ suc (length s) = omega arith in
        sym (written_first 0 b s (λ e. T-not-out (eqb b 48) n (eq_to_eqb b 48 e)) h) ∙ ap (λ (f : ℕ). digits f (value (b ∷ s))) e
    go [] h (inr u) =
        let r = digit_bounds b h.0 in
        let d : b ≡ 48 + (10 * 0 + (b - 48)) = omega arith in
        ap (λ (c : ℕ). c ∷ []) d ∙ sym (digits_one 0 (10 * 0 + (b - 48)) (omega arith))
    go (c ∷ s) h (inr u) = absurd u

written_numeral : (x : List ℕ) → DecimalWriting x → T (is_numeral x)
unfolding value
written_numeral [] h = absurd (h.0 refl)
written_numeral (b ∷ s) h = T_and (every is_digit (b ∷ s)) (not (eqb b 48) || is_empty s) ((all_digits (b ∷ s)).1 all) (T-or (not (eqb b 48)) (is_empty s) (go s h.1 all (ℕ_discrete b 48)))
  where
    all : All (λ b. T (is_digit b)) (b ∷ s)
    all = subst (All (λ b. T (is_digit b))) (sym h.1) (digits_all (suc (length s)) (value (b ∷ s)))

    go : (s : List ℕ) → b ∷ s ≡ digits (suc (length s)) (value (b ∷ s)) → All (λ b. T (is_digit b)) (b ∷ s) → Dec (b ≡ 48) → T (not (eqb b 48)) ⊎ T (is_empty s)
    go s e d (no n) = inl (T-not-in (eqb b 48) (λ t. n (eqb→eq b 48 t)))
    go [] e d (yes z) = inr tt
    go (c ∷ s) e d (yes z) =
        let w : 10 * 0 + (b - 48) ≡ 0 = omega arith in
        absurd (omega (arith, ap length e, ap (λ (v : ℕ). length (digits (suc (suc (length s))) (value_from v (c ∷ s)))) w, no_longer (c ∷ s) (suc (suc (length s))) not_empty (omega arith) d.1))

pub numeral_iff : (x : List ℕ) → T (is_numeral x) ↔ DecimalWriting x
numeral_iff x = (numeral_written x, written_numeral x)

pub numeral_digits : (x : List ℕ) → T (is_numeral x) → T (every is_digit x)
numeral_digits [] t = absurd t
numeral_digits (b ∷ s) t = T-and-l (every is_digit (b ∷ s)) (not (eqb b 48) || is_empty s) t

-- what a numeral's first digit tells
first_test : (b : ℕ) (s : List ℕ) → T (is_numeral (b ∷ s)) → T (not (eqb b 48)) ⊎ T (is_empty s)
first_test b s t = T-or-out (not (eqb b 48)) (is_empty s) (T-and-r (every is_digit (b ∷ s)) (not (eqb b 48) || is_empty s) t)

pub numeral_zero : (x : List ℕ) → T (is_numeral x) → get_or x 0 0 ≡ 48 → value x ≡ 0
unfolding value
numeral_zero [] t e = refl
numeral_zero (b ∷ s) t e = go s (first_test b s t)
  where
    go : (s : List ℕ) → T (not (eqb b 48)) ⊎ T (is_empty s) → value_from (10 * 0 + (b - 48)) s ≡ 0
    go s (inl n) = absurd (T-not-out (eqb b 48) n (eq_to_eqb b 48 e))
    go [] (inr u) = omega arith
    go (c ∷ s) (inr u) = absurd u

pub numeral_first : (x : List ℕ) → every is_digit x ≡ true → (length x ≡ 0 → ⊥) → (get_or x 0 0 ≡ 48 → ⊥) → T (is_numeral x)
numeral_first [] d n e = absurd (n refl)
numeral_first (b ∷ s) d n e = T_and (every is_digit (b ∷ s)) (not (eqb b 48) || is_empty s) (T_of (sym d) tt) (T-or (not (eqb b 48)) (is_empty s) (inl (T-not-in (eqb b 48) (λ t. e (eqb→eq b 48 t)))))

value_grows : (v : ℕ) (s : List ℕ) → v ≤ value_from v s
value_grows v [] = omega arith
value_grows v (b ∷ s) = omega (arith, value_grows (10 * v + (b - 48)) s)

pub value_positive : (x : List ℕ) → every is_digit x ≡ true → (length x ≡ 0 → ⊥) → (get_or x 0 0 ≡ 48 → ⊥) → 1 ≤ value x
unfolding value
value_positive [] d n e = absurd (n refl)
value_positive (b ∷ s) d n e =
    let r = digit_bounds b ((all_digits (b ∷ s)).0 (T_of (sym d) tt)).0 in
    omega (arith, value_grows (10 * 0 + (b - 48)) s)

-- a small number has few digits
pub numeral_below : (x : List ℕ) (k : ℕ) → T (is_numeral x) → value x < 10 ^ suc k → length x ≤ suc k
numeral_below x k t l = omega (arith, ap length (numeral_written x t).1, digits_below (length x) (value x) k l)

pub numeral_decimal : (x : List ℕ) → T (is_numeral x) → length x ≤ 20 → decimal (value x) ≡ x
unfolding value digits
numeral_decimal [] t l = absurd t
numeral_decimal (b ∷ s) t l = go s t l (first_test b s t)
  where
    go : (s : List ℕ) → T (is_numeral (b ∷ s)) → suc (length s) ≤ 20 → T (not (eqb b 48)) ⊎ T (is_empty s) → decimal (value (b ∷ s)) ≡ b ∷ s
    go s t l (inl n) =
        let k = 19 - length s in
        let e : 20 ≡ suc k + length s = omega arith in
        ap (λ (f : ℕ). digits f (value (b ∷ s))) e ∙ written_first k b s (λ e. T-not-out (eqb b 48) n (eq_to_eqb b 48 e)) ((all_digits (b ∷ s)).0 (T-and-l (every is_digit (b ∷ s)) (not (eqb b 48) || is_empty s) t))
    go [] t l (inr u) =
        let r = digit_bounds b ((all_digits (b ∷ [])).0 (T-and-l (every is_digit (b ∷ [])) (not (eqb b 48) || true) t)).0 in
        let d : 48 + (10 * 0 + (b - 48)) ≡ b = omega arith in
        digits_one 19 (10 * 0 + (b - 48)) (omega arith) ∙ ap (λ (c : ℕ). c ∷ []) d
    go (c ∷ s) t l (inr u) = absurd u

-- what is written in decimal
pub decimal_numeral : (x : ℕ) → 1 ≤ x → x < 10 ^ 20 → T (is_numeral (decimal x))
unfolding value
decimal_numeral x l u =
    numeral_first (decimal x) (is_true_lem (every is_digit (decimal x)) ((all_digits (decimal x)).1 (digits_all 20 x)))
    (λ e. omega (arith, value_digits 20 x u, none (decimal x) e)) (digits_first 20 x l u)
  where
    none : (y : List ℕ) → length y ≡ 0 → value y ≡ 0
    none [] e = refl
    none (b ∷ y) e = absurd (omega arith)
