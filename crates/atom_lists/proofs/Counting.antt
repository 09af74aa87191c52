-- Counting atoms: those of a test among all, and those of a list that are below a number.
use Prim.Native.Nat.{ℕ, suc, ◌+◌, ◌≤◌, ◌<◌}
use native.Mathlib.Omega.{arith}
use native.Mathlib.Numerals.{add-one}
use mathlib.Core.Path.{◌≡◌, refl, ap, ◌∙◌}
use mathlib.Core.Bool.{Bool, true, false, cond}
use mathlib.Core.List.{List, [], ◌∷◌}
use lib.ListN.{length, get_or, drop, drop_of_length-le}
use lib.Seq.{drop-cons}
use borrow.Author.Tests.{lt-ltb, le-ltb}
use Rattle.std.specs.List.{filter as kept}
use Rattle.rules.specs.Lists.{keep, filter, from}
use Rattle.pairing.specs.Loops.{below}
use Rattle.atom_lists.specs.Split.{count_below}

-- among all atoms, by their class words

count_from : (t : ℕ → Bool) (ws all : List ℕ) (s : ℕ) → ((i : ℕ) → get_or all (s + i) 0 ≡ get_or ws i 0) → length (kept t ws) ≡ length (filter (λ a. t (get_or all a 0)) (from s (length ws)))
count_from t [] all s h = refl
count_from t (w ∷ ws) all s h =
    let e : s ≡ s + 0 = omega arith in
    let here : t (get_or all s 0) ≡ t w = ap (λ (k : ℕ). t (get_or all k 0)) e ∙ ap t (h 0) in
    let rest = count_from t ws all (suc s) (λ i. let f : suc s + i ≡ s + suc i = omega arith in ap (λ (k : ℕ). get_or all k 0) f ∙ h (suc i)) in
    rw here (one (t w) rest)
  where
    one : (b : Bool) → length (kept t ws) ≡ length (filter (λ a. t (get_or all a 0)) (from (suc s) (length ws))) → length (cond b (w ∷ kept t ws) (kept t ws)) ≡ length (keep b s (filter (λ a. t (get_or all a 0)) (from (suc s) (length ws))))
    one true e = ap suc e
    one false e = e

pub count_words : (t : ℕ → Bool) (ws : List ℕ) → length (kept t ws) ≡ length (filter (λ a. t (get_or ws a 0)) (from 0 (length ws)))
count_words t ws = count_from t ws ws 0 (λ i. let e : 0 + i ≡ i = omega arith in ap (λ (k : ℕ). get_or ws k 0) e)

-- in a list

pub record CountingBelow (end : ℕ) (xs : List ℕ) (i c : ℕ) : Type 0 where
  pub passed : i ≤ length xs
  pub most : c ≤ i
  pub is : c + count_below end (drop i xs) ≡ count_below end xs

pub below_begins : (end : ℕ) (xs : List ℕ) → CountingBelow end xs 0 0
below_begins end xs = record { passed = omega arith; most = omega arith; is = omega arith }

module _ {end : ℕ} {xs : List ℕ} {i c : ℕ} (h : CountingBelow end xs i c) where
  next_below : {t : Bool} → i < length xs → below end (get_or xs i 0) ≡ t → count_below end (drop i xs) ≡ length (keep t (get_or xs i 0) (filter (below end) (drop (i + 1) xs)))
  unfolding count_below
  next_below l e = rw (drop-cons xs i 0 l, add-one, e)

  pub below_more : {d : ℕ} → i < length xs → get_or xs i 0 < end → d ≡ c + 1 → CountingBelow end xs (i + 1) d
  unfolding count_below
  below_more l u f = record { passed = omega arith; most = omega (arith, h.most); is = omega (arith, h.is, next_below l (lt-ltb (get_or xs i 0) end u)) }

  pub below_same : {d : ℕ} → i < length xs → end ≤ get_or xs i 0 → d ≡ c → CountingBelow end xs (i + 1) d
  unfolding count_below
  below_same l u f = record { passed = omega arith; most = omega (arith, h.most); is = omega (arith, h.is, next_below l (le-ltb (get_or xs i 0) end u)) }

  pub below_ends : length xs ≤ i → c ≡ count_below end xs
  unfolding count_below
  below_ends l = omega (arith, h.is, ap (count_below end) (drop_of_length-le xs l))
