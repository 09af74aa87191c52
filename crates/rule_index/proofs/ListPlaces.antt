-- The places of the lists in an index.
use Prim.Native.Nat.{ℕ, zero, suc, ◌+◌, ◌≤◌, ◌<◌}
use native.Mathlib.Omega.{arith}
use mathlib.Core.Path.{◌≡◌, refl, ap, ◌∙◌}
use mathlib.Core.List.{List}
use lib.ListN.{length, get_or}
use Rattle.rules.specs.Lists.{flat, from}
use Rattle.rules.specs.Rules.{Rule}
use Rattle.rule_index.specs.Index.{rules_with, counted, index}
use Rattle.rule_index.specs.Places.{list_at}
use Rattle.rule_index.proofs.Segments.{flat_next, flat_at}

pub list_next : (ws : List ℕ) (a : ℕ) → list_at ws (suc a) ≡ list_at ws a + 1 + get_or ws (list_at ws a) 0
unfolding list_at
list_next ws a = omega arith

module _ (n : ℕ) (rs : List (Rule ℕ)) where
  -- the list of an atom, and where the index has it
  abbrev list : ℕ → List ℕ
  list a = counted (rules_with a rs)

  abbrev start : ℕ → ℕ
  start a = length (flat list (from 0 a))

  -- right counts put every list where the index has it
  pub counts_place : (ws : List ℕ) → ((a : ℕ) → a < n → list_at ws a ≡ start a → get_or ws (list_at ws a) 0 ≡ length (rules_with a rs)) → (a : ℕ) → a ≤ n → list_at ws a ≡ start a
  unfolding list_at
  counts_place ws h zero l = refl
  counts_place ws h (suc a) l = let e = counts_place ws h a (omega arith) in omega (arith, e, h a (omega arith) e, flat_next list a)

  pub index_places : (a : ℕ) → a ≤ n → list_at (index n rs) a ≡ start a
  unfolding index
  index_places =
      let ws = flat list (from 0 n) in
      counts_place ws (λ a l e. let z : list_at ws a ≡ start a + 0 = omega (arith, e) in ap (λ (k : ℕ). get_or ws k 0) z ∙ flat_at list n a 0 l (omega arith))
