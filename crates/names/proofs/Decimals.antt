-- A number's decimal digits: few enough, digits all, and they say that number.
use Prim.Native.Nat.{ℕ, zero, suc, ◌+◌, ◌-◌, ◌*◌, ◌/◌, ◌%◌, ◌^◌, ◌≤◌, ◌<◌}
use native.Mathlib.Omega.{arith}
use mathlib.Core.Path.{◌≡◌, refl, sym, ap, ap₂, ◌∙◌}
use mathlib.Core.List.{List, [], ◌∷◌, ◌++◌}
use mathlib.Core.Bool.{Bool, true, false, cond}
use lib.Dec.{T, leb, ltb, le→leb}
use lib.ListN.{length, get_or, length-append}
use borrow.Author.Tests.{ltb-true, ltb-false}
use Rattle.kinds.specs.Words.{digits, decimal}
use Rattle.rules.specs.Lists.{All}
use Rattle.rules.proofs.Booleans.{T_and}
use Rattle.rules.proofs.Lists.{all_app}
use Rattle.names.specs.Numerals.{is_digit, value_from, value}

pub digits_few : (f x : ℕ) → length (digits f x) ≤ f
unfolding digits
digits_few zero x = omega arith
digits_few (suc f) x = go (ltb x 10) (digits_few f (x / 10))
  where
    go : (b : Bool) → length (digits f (x / 10)) ≤ f → length (cond b ((48 + x) ∷ []) (digits f (x / 10) ++ ((48 + x % 10) ∷ []))) ≤ suc f
    go true h = omega arith
    go false h = omega (arith, length-append (digits f (x / 10)) ((48 + x % 10) ∷ []))

is_digit_lem : (d : ℕ) → d < 10 → T (is_digit (48 + d))
is_digit_lem d l = T_and (leb 48 (48 + d)) (leb (48 + d) 57) (le→leb 48 (48 + d) (omega arith)) (le→leb (48 + d) 57 (omega arith))

pub digits_all : (f x : ℕ) → All (λ b. T (is_digit b)) (digits f x)
unfolding digits
digits_all zero x = tt
digits_all (suc f) x = go (ltb x 10) refl (digits_all f (x / 10))
  where
    go : (b : Bool) → ltb x 10 ≡ b → All (λ b. T (is_digit b)) (digits f (x / 10)) → All (λ b. T (is_digit b)) (cond b ((48 + x) ∷ []) (digits f (x / 10) ++ ((48 + x % 10) ∷ [])))
    go true e h = (is_digit_lem x (ltb-true x 10 e), tt)
    go false e h = all_app (λ b. T (is_digit b)) (digits f (x / 10)) ((48 + x % 10) ∷ []) h (is_digit_lem (x % 10) (omega arith), tt)

-- digits behind digits
value_app : (v : ℕ) (xs ys : List ℕ) → value_from v (xs ++ ys) ≡ value_from (value_from v xs) ys
value_app v [] ys = refl
value_app v (x ∷ xs) ys = value_app (10 * v + (x - 48)) xs ys

pub value_digits : (f x : ℕ) → x < 10 ^ f → value (digits f x) ≡ x
unfolding digits value
value_digits zero x l = omega arith
value_digits (suc f) x l = go (ltb x 10) (value_digits f (x / 10) (omega arith))
  where
    go : (b : Bool) → value_from 0 (digits f (x / 10)) ≡ x / 10 → value_from 0 (cond b ((48 + x) ∷ []) (digits f (x / 10) ++ ((48 + x % 10) ∷ []))) ≡ x
    go true h = omega arith
    go false h = value_app 0 (digits f (x / 10)) ((48 + x % 10) ∷ []) ∙ omega arith

-- at most k + 1 digits below 10 to the k + 1
pub digits_below : (f x k : ℕ) → x < 10 ^ suc k → length (digits f x) ≤ suc k
unfolding digits
digits_below zero x k l = omega arith
digits_below (suc f) x k l = go (ltb x 10) refl k l (λ k. digits_below f (x / 10) k)
  where
    go : (b : Bool) → ltb x 10 ≡ b → (k : ℕ) → x < 10 ^ suc k → ((k : ℕ) → x / 10 < 10 ^ suc k → length (digits f (x / 10)) ≤ suc k) → length (cond b ((48 + x) ∷ []) (digits f (x / 10) ++ ((48 + x % 10) ∷ []))) ≤ suc k
    go true e k l r = omega arith
    go false e zero l r = let h : 10 ≤ x = ltb-false x 10 e in absurd (omega arith)
    go false e (suc k) l r = omega (arith, length-append (digits f (x / 10)) ((48 + x % 10) ∷ []), r k (omega arith))

-- no zero first
pub digits_first : (f x : ℕ) → 1 ≤ x → x < 10 ^ f → get_or (digits f x) 0 0 ≡ 48 → ⊥
unfolding digits value
digits_first zero x l u e = omega arith
digits_first (suc f) x l u e = go (ltb x 10) refl e (digits f (x / 10)) refl (λ l. digits_first f (x / 10) l (omega arith))
  where
    go : (b : Bool) → ltb x 10 ≡ b → get_or (cond b ((48 + x) ∷ []) (digits f (x / 10) ++ ((48 + x % 10) ∷ []))) 0 0 ≡ 48 → (y : List ℕ) → digits f (x / 10) ≡ y → (1 ≤ x / 10 → get_or (digits f (x / 10)) 0 0 ≡ 48 → ⊥) → ⊥
    go true t e y q r = omega arith
    go false t e [] q r = let h : 10 ≤ x = ltb-false x 10 t in omega (arith, value_digits f (x / 10) (omega arith), ap value q)
    go false t e (b ∷ y) q r = let h : 10 ≤ x = ltb-false x 10 t in r (omega arith) (ap (λ (z : List ℕ). get_or z 0 0) q ∙ sym (ap (λ (z : List ℕ). get_or (z ++ ((48 + x % 10) ∷ [])) 0 0) q) ∙ e)

pub decimal_inj : (x y : ℕ) → x < 10 ^ 20 → y < 10 ^ 20 → decimal x ≡ decimal y → x ≡ y
decimal_inj x y l u e = sym (value_digits 20 x l) ∙ ap value e ∙ value_digits 20 y u

-- below 20: one digit, or a 1 and another one
abbrev pub short : ℕ → List ℕ
short j = cond (ltb j 10) ((48 + j) ∷ []) (49 ∷ (38 + j) ∷ [])

short_by : (j : ℕ) (b : Bool) → ltb j 10 ≡ b → j < 20 → cond b ((48 + j) ∷ []) (digits 19 (j / 10) ++ ((48 + j % 10) ∷ [])) ≡ cond b ((48 + j) ∷ []) (49 ∷ (38 + j) ∷ [])
unfolding digits
short_by j true e l = refl
short_by j false e l =
    let t : 10 ≤ j = ltb-false j 10 e in
    let q : j / 10 ≡ 1 = omega arith in
    let r : 48 + j % 10 ≡ 38 + j = omega arith in
    ap₂ (λ (k m : ℕ). digits 19 k ++ (m ∷ [])) q r

pub decimal_short : (j : ℕ) → j < 20 → decimal j ≡ short j
unfolding digits
decimal_short j l = short_by j (ltb j 10) refl l
