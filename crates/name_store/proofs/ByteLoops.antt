-- Loops over the bytes of names: comparing two, and taking the hash of one.
use Prim.Native.Nat.{ℕ, zero, suc, ◌+◌, ◌-◌, ◌*◌, ◌%◌, ◌≤◌, ◌<◌, zero-le}
use native.Mathlib.Numerals.{add-one}
use native.Mathlib.Omega.{arith}
use mathlib.Core.Path.{◌≡◌, refl, sym, ap, ap₂, ◌∙◌}
use mathlib.Core.List.{List, [], ◌∷◌}
use mathlib.Core.Bool.{Bool, true, false, not, ◌&&◌}
use lib.Dec.{eqb}
use lib.ListN.{length, get_or, take, drop, length-take, length-drop, drop_of_length-le}
use lib.Seq.{drop-cons, drop-drop}
use lib.Pointwise.{pointwise}
use borrow.Author.Tests.{eq-eqb, ne_eqb, not-true, not-false}
use Rattle.rules.proofs.Booleans.{and-false}
use Rattle.name_store.specs.NameStore.{same_bytes}
use Rattle.name_store.specs.NameIndex.{buckets, hash_from, name_hash}

pub other_length : (a b : List ℕ) → (length a ≡ length b → ⊥) → false ≡ same_bytes a b
unfolding same_bytes
other_length [] [] h = absurd (h refl)
other_length [] (y ∷ b) h = refl
other_length (x ∷ a) [] h = refl
other_length (x ∷ a) (y ∷ b) h = go (eqb x y) (other_length a b (λ e. h (ap suc e)))
  where
    go : (t : Bool) → false ≡ same_bytes a b → false ≡ t && same_bytes a b
    go true e = e
    go false e = refl

kept_true : (b : Bool) → (b && true) ≡ b
kept_true true = refl
kept_true false = refl

-- the first bytes of two lists, and the others
same_split : (n : ℕ) (a b : List ℕ) → length a ≡ length b → n ≤ length a → same_bytes a b ≡ same_bytes (take n a) (take n b) && same_bytes (drop n a) (drop n b)
unfolding same_bytes
same_split zero a b e l = refl
same_split (suc n) [] b e l = absurd (omega arith)
same_split (suc n) (x ∷ a) [] e l = absurd (omega arith)
same_split (suc n) (x ∷ a) (y ∷ b) e l = go (eqb x y) (same_split n a b (omega arith) (omega arith))
  where
    go : (t : Bool) → same_bytes a b ≡ same_bytes (take n a) (take n b) && same_bytes (drop n a) (drop n b) → t && same_bytes a b ≡ (t && same_bytes (take n a) (take n b)) && same_bytes (drop n a) (drop n b)
    go true r = r
    go false r = refl

-- a walk that has come to i and has met no difference, or that goes on whatever it met
pub record Same (a b : List ℕ) (from i : ℕ) (flag : Bool) : Type 0 where
  pub long : length a ≡ length b
  pub inside : i ≤ length a
  pub left : flag && same_bytes (drop i a) (drop i b) ≡ same_bytes (drop from a) (drop from b)

pub same_begins : (a b : List ℕ) (from : ℕ) → length a ≡ length b → from ≤ length a → Same a b from from true
same_begins a b from e l = record { long = e; inside = l; left = refl }

module _ {a b : List ℕ} {from i : ℕ} {flag : Bool} (h : Same a b from i flag) where
  pub same_passed : length a ≤ i → flag ≡ same_bytes (drop from a) (drop from b)
  unfolding same_bytes
  same_passed e =
      let l : length b ≤ i = omega (arith, h.long) in
      sym (kept_true flag) ∙ ap (λ t. flag && t) (ap₂ same_bytes (sym (drop_of_length-le a e)) (sym (drop_of_length-le b l))) ∙ h.left

  module _ (lt : i < length a) where
    same_step : same_bytes (drop i a) (drop i b) ≡ eqb (get_or a i 0) (get_or b i 0) && same_bytes (drop (i + 1) a) (drop (i + 1) b)
    unfolding same_bytes
    same_step =
        let l : i < length b = omega (arith, h.long) in
        rw (add-one, drop-cons a i 0, drop-cons b i 0)

    pub same_differs : (get_or a i 0 ≡ get_or b i 0 → ⊥) → false ≡ same_bytes (drop from a) (drop from b)
    same_differs e = sym (and-false flag) ∙ ap (λ t. flag && t) (sym (rw (ne_eqb _ _ e) at same_step)) ∙ h.left

    pub same_not : (get_or a i 0 ≡ get_or b i 0 → ⊥) → {flag' : Bool} → flag' ≡ false → Same a b from (i + 1) flag'
    same_not e d = record { long = h.long; inside = omega arith; left = ap (λ t. t && same_bytes (drop (i + 1) a) (drop (i + 1) b)) d ∙ same_differs e }

    pub same_again : get_or a i 0 ≡ get_or b i 0 → {flag' : Bool} → flag' ≡ flag → Same a b from (i + 1) flag'
    same_again e d = record { long = h.long; inside = omega arith; left = ap₂ ◌&&◌ d (sym (rw (eq-eqb _ _ e) at same_step)) ∙ h.left }

-- a block of bytes, as the code takes it
module _ {a b : List ℕ} {i : ℕ} (h : Same a b 0 i true) (l : i + 8 ≤ length a) {q : Bool} (f : q ≡ same_bytes (take (i + 8 - i) (drop i a)) (take (i + 8 - i) (drop i b))) where
  block_split : same_bytes (drop i a) (drop i b) ≡ q && same_bytes (drop (i + 8) a) (drop (i + 8) b)
  block_split =
      let n : i + 8 - i ≡ 8 = omega arith in
      same_split 8 (drop i a) (drop i b) (omega (arith, length-drop i a, length-drop i b, h.long)) (omega (arith, length-drop i a))
      ∙ ap₂ ◌&&◌ (ap (λ (k : ℕ). same_bytes (take k (drop i a)) (take k (drop i b))) (sym n) ∙ sym f) (ap₂ same_bytes (drop-drop 8 i a) (drop-drop 8 i b))

  pub block_same : not q ≡ false → Same a b 0 (i + 8) true
  block_same d = record { long = h.long; inside = l; left = ap (λ t. t && same_bytes (drop (i + 8) a) (drop (i + 8) b)) (sym (not-false q d)) ∙ sym block_split ∙ h.left }

  pub block_differs : not q ≡ true → false ≡ same_bytes a b
  block_differs d = ap (λ t. t && same_bytes (drop (i + 8) a) (drop (i + 8) b)) (sym (not-true q d)) ∙ sym block_split ∙ h.left

-- the test that slices are equal

pub same_pairs : (x y : List ℕ) → pointwise eqb x y ≡ same_bytes x y
unfolding same_bytes
same_pairs [] [] = refl
same_pairs [] (b ∷ y) = refl
same_pairs (a ∷ x) [] = refl
same_pairs (a ∷ x) (b ∷ y) = ap (λ t. eqb a b && t) (same_pairs x y)

pub blocks_as_long : (a b : List ℕ) (i : ℕ) → length a ≡ length b → i + 8 ≤ length a → length (take (i + 8 - i) (drop i a)) ≡ length (take (i + 8 - i) (drop i b))
blocks_as_long a b i e l = omega (arith, length-take (i + 8 - i) (drop i a), length-take (i + 8 - i) (drop i b), length-drop i a, length-drop i b)

pub record Hashing (x : List ℕ) (i h : ℕ) : Type 0 where
  pub inside : i ≤ length x
  pub small : h < buckets
  pub left : hash_from h (drop i x) ≡ name_hash x

pub hash_begins : (x : List ℕ) → Hashing x 0 0
hash_begins x = record { inside = zero-le; small = omega arith; left = refl }

module _ {x : List ℕ} {i h : ℕ} (r : Hashing x i h) where
  pub hash_passed : length x ≤ i → h ≡ name_hash x
  unfolding hash_from
  hash_passed e = sym (ap (hash_from h) (drop_of_length-le x e)) ∙ r.left

  pub hash_again : i < length x → {h' : ℕ} → h' ≡ (h * 31 + get_or x i 0) % buckets → Hashing x (i + 1) h'
  unfolding hash_from
  hash_again lt {h'} e =
      let step : hash_from h (drop i x) ≡ hash_from h' (drop (i + 1) x) = rw (add-one, drop-cons x i 0, e) in
      record { inside = omega arith; small = omega arith; left = sym step ∙ r.left }

hash_from_small : (h : ℕ) (x : List ℕ) → h < buckets → hash_from h x < buckets
unfolding hash_from
hash_from_small h [] l = l
hash_from_small h (b ∷ x) l = hash_from_small ((h * 31 + b) % buckets) x (omega arith)

pub hash_small : (x : List ℕ) → name_hash x < buckets
hash_small x = hash_from_small 0 x (omega arith)
