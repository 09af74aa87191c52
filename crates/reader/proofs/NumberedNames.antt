-- Names and their numbers: the number of a declared name and the name of a number give each other back; the test `twice` is about different names.
use Prim.Native.Nat.{ℕ, zero, suc, ◌<◌}
use native.Mathlib.Omega.{arith}
use mathlib.Core.Path.{◌≡◌, refl, sym, ap, ap₂, ◌∙◌}
use mathlib.Core.Logic.{◌⊎◌, inl, inr, ◌↔◌, ◌≢◌}
use mathlib.Core.Bool.{Bool, true, false, cond}
use mathlib.Core.List.{List, [], ◌∷◌, ◌++◌, map}
use lib.Dec.{T}
use lib.ListN.{length, get_or}
use Rattle.rules.specs.Lists.{All, Distinct}
use Rattle.rules.proofs.Booleans.{is_true_lem}
use Rattle.rules.proofs.Lists.{all_at, distinct_map}
use Rattle.name_store.specs.NameStore.{same_bytes}
use Rattle.name_store.proofs.NameStores.{same_law}
use Rattle.text.specs.Text.{named}
use Rattle.lines.specs.Faults.{twice, name_number}
use Rattle.faults.specs.Sentences.{Among}
use Rattle.faults.proofs.Tests.{distinct_law, twice_law}

-- after names that differ
pub different_law : (old xs : List (List ℕ)) → Distinct old → (T (twice old xs) → ⊥) ↔ Distinct (old ++ xs)
different_law old xs d =
    let law = twice_law old xs ((distinct_law old).1 d) in
    let apart = distinct_law (old ++ xs) in
    (λ h. apart.0 (λ t. h (law.1 t)), λ e t. apart.1 e (law.0 t))

-- numbers

module _ (x : List ℕ) where
  pub number_below : (names : List (List ℕ)) → Among names x → name_number names x < length names
  unfolding name_number
  number_below [] h = absurd h
  number_below (y ∷ ys) h = go (same_bytes x y) (same_law x y).1 (number_below ys) h
    where
      go : (b : Bool) → (x ≡ y → T b) → (Among ys x → name_number ys x < length ys) → (x ≡ y) ⊎ Among ys x → cond b 0 (suc (name_number ys x)) < suc (length ys)
      go true e r k = omega arith
      go false e r (inl k) = absurd (e k)
      go false e r (inr k) = omega (arith, r k)

  pub name_of_number : (names : List (List ℕ)) → Among names x → get_or names (name_number names x) [] ≡ x
  unfolding name_number
  name_of_number [] h = absurd h
  name_of_number (y ∷ ys) h = go (same_bytes x y) (same_law x y) (name_of_number ys) h
    where
      go : (b : Bool) → T b ↔ (x ≡ y) → (Among ys x → get_or ys (name_number ys x) [] ≡ x) → (x ≡ y) ⊎ Among ys x → get_or (y ∷ ys) (cond b 0 (suc (name_number ys x))) [] ≡ x
      go true e r k = sym (e.0 tt)
      go false e r (inl k) = absurd (e.1 k)
      go false e r (inr k) = r k

  is_no_other : (y : List ℕ) (n : ℕ) → y ≢ x → cond (same_bytes x y) 0 n ≡ n
  is_no_other y n h = go (same_bytes x y) (same_law x y).0
    where
      go : (b : Bool) → (T b → x ≡ y) → cond b 0 n ≡ n
      go true e = absurd (h (sym (e tt)))
      go false e = refl

pub number_of_name : (names : List (List ℕ)) (a : ℕ) → Distinct names → a < length names → name_number names (get_or names a []) ≡ a
unfolding name_number
number_of_name [] a d h = absurd (omega arith)
number_of_name (y ∷ ys) zero d h = ap (λ b. cond b 0 (suc (name_number ys y))) (is_true_lem (same_bytes y y) ((same_law y y).1 refl))
number_of_name (y ∷ ys) (suc a) d h =
    let x = get_or ys a [] in
    is_no_other x y (suc (name_number ys x)) (all_at (λ z. y ≢ z) [] ys d.0 a (omega arith)) ∙ ap suc (number_of_name ys a d.1 (omega arith))

pub declared_at : (names : List (List ℕ)) (a : ℕ) → a < length names → Among names (get_or names a [])
declared_at [] a h = absurd (omega arith)
declared_at (y ∷ ys) zero h = inl refl
declared_at (y ∷ ys) (suc a) h = inr (declared_at ys a (omega arith))

-- the lists of a rule

module _ (names : List (List ℕ)) where
  pub names_of_numbers : (xs : List (List ℕ)) → All (Among names) xs → named names (map (name_number names) xs) ≡ xs
  names_of_numbers [] h = refl
  names_of_numbers (x ∷ xs) h = ap₂ ◌∷◌ (name_of_number x names h.0) (names_of_numbers xs h.1)

  pub numbers_differ : (xs : List (List ℕ)) → All (Among names) xs → Distinct xs → Distinct (map (name_number names) xs)
  numbers_differ xs h d =
      distinct_map (name_number names) (Among names) (λ x y k l e. sym (name_of_number x names k) ∙ ap (λ i. get_or names i []) e ∙ name_of_number y names l) xs h d

  module _ (different : Distinct names) where
    pub numbers_of_names : (as' : List ℕ) → All (λ a. a < length names) as' → map (name_number names) (named names as') ≡ as'
    numbers_of_names [] h = refl
    numbers_of_names (a ∷ as') h = ap₂ ◌∷◌ (number_of_name names a different h.0) (numbers_of_names as' h.1)

    pub names_differ : (as' : List ℕ) → All (λ a. a < length names) as' → Distinct as' → Distinct (named names as')
    names_differ as' h d =
        distinct_map (λ a. get_or names a []) (λ a. a < length names) (λ a b k l e. sym (number_of_name names a different k) ∙ ap (name_number names) e ∙ number_of_name names b different l) as' h d
