-- The counts in an index, one after the other.
use Prim.Native.Nat.{ℕ, ◌+◌, ◌≤◌, ◌<◌}
use native.Mathlib.Numerals.{add-one}
use native.Mathlib.Omega.{arith}
use mathlib.Core.Path.{◌≡◌, refl, sym, ap, ◌∙◌, subst}
use mathlib.Core.List.{List}
use lib.ListN.{length, get_or}
use Rattle.rule_index.specs.Places.{list_at}
use Rattle.rule_index.proofs.ListPlaces.{list_next}
use Rattle.flipping.specs.Places.{Counts}

pub record Counting (index : List ℕ) (atom at i : ℕ) : Type 0 where
  pub inside : Counts index atom
  pub passed : i ≤ atom
  pub is : at ≡ list_at index i

pub counts_begin : {index : List ℕ} {atom : ℕ} → Counts index atom → Counting index atom 0 0
unfolding list_at
counts_begin h = record { inside = h; passed = omega arith; is = refl }

module _ {index : List ℕ} {atom at i : ℕ} (h : Counting index atom at i) where
  pub count_inside : i < atom → at < length index
  count_inside l = subst (λ (x : ℕ). x < length index) (sym h.is) (h.inside.inside i l)

  pub counts_again : i < atom → Counting index atom (at + 1 + get_or index at 0) (i + 1)
  counts_again l = record { inside = h.inside; passed = omega arith; is = ap (λ (x : ℕ). x + 1 + get_or index x 0) h.is ∙ sym (ap (list_at index) (add-one i) ∙ list_next index i) }

  pub counts_end : atom ≤ i → at ≡ list_at index atom
  counts_end l = let e : i ≡ atom = omega (arith, h.passed) in h.is ∙ ap (list_at index) e
