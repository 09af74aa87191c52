-- How the words of a list of atoms follow one another.
use Prim.Native.Nat.{ℕ, suc, ◌+◌, ◌-◌, ◌≤◌, ◌<◌}
use native.Mathlib.Omega.{arith}
use native.Mathlib.Numerals.{add-one}
use mathlib.Core.Path.{◌≡◌, refl, sym, ap, ◌∙◌}
use mathlib.Core.Bool.{Bool, true, false}
use mathlib.Core.List.{List, [], ◌∷◌, ◌++◌, map, map-id}
use lib.ListN.{length, get_or, drop, drop_of_length-le}
use lib.Seq.{drop-cons}
use Rattle.rules.specs.Lists.{keep, filter, flat, from}
use Rattle.rules.proofs.ListLaws.{map_eq}
use Rattle.output.proofs.Emitting.{Ahead}
use Rattle.atom_lists.specs.ListWords.{each, single, raised}

pub each_single : (xs : List ℕ) → each single xs ≡ xs
unfolding each single
each_single [] = refl
each_single (x ∷ xs) = ap (λ (l : List ℕ). x ∷ l) (each_single xs)

-- the words of a run of numbers
module _ (g : ℕ → List ℕ) (i end : ℕ) where
  pub run_next : i < end → Ahead (each g (from i (end - i))) (g i) (each g (from (i + 1) (end - (i + 1))))
  unfolding each
  run_next l =
      let e : end - i ≡ suc (end - (i + 1)) = omega arith in
      record { is = ap (λ (k : ℕ). each g (from i k)) e ∙ ap (λ (k : ℕ). g i ++ each g (from k (end - (i + 1)))) (sym (add-one i)) }

  pub run_ends : end ≤ i → each g (from i (end - i)) ≡ []
  unfolding each
  run_ends l = let e : end - i ≡ 0 = omega arith in ap (λ (k : ℕ). each g (from i k)) e

-- the words of a list
module _ (g : ℕ → List ℕ) (xs : List ℕ) {i : ℕ} where
  pub list_next : i < length xs → Ahead (each g (drop i xs)) (g (get_or xs i 0)) (each g (drop (i + 1) xs))
  unfolding each
  list_next l = record { is = rw (drop-cons xs i 0 l, add-one) }

  pub list_ends : length xs ≤ i → each g (drop i xs) ≡ []
  unfolding each
  list_ends l = ap (each g) (drop_of_length-le xs l)

-- the atoms that pass a test

pub each_raised : (t : ℕ → Bool) (b : ℕ) (xs : List ℕ) → each (raised t b) xs ≡ map (λ a. b + a) (filter t xs)
unfolding each raised
each_raised t b [] = refl
each_raised t b (x ∷ xs) = go (t x) (each_raised t b xs)
  where
    go : (s : Bool) → flat (raised t b) xs ≡ map (λ a. b + a) (filter t xs) → keep s (b + x) [] ++ flat (raised t b) xs ≡ map (λ a. b + a) (keep s x (filter t xs))
    go true e = ap (λ (l : List ℕ). (b + x) ∷ l) e
    go false e = e

pub each_itself : (t : ℕ → Bool) (xs : List ℕ) → each (raised t 0) xs ≡ filter t xs
each_itself t xs = each_raised t 0 xs ∙ map_eq (λ a. 0 + a) (λ a. a) (λ a. omega arith) (filter t xs) ∙ map-id (filter t xs)

-- one atom

pub single_is : (a : ℕ) → single a ≡ a ∷ []
unfolding single
single_is a = refl
