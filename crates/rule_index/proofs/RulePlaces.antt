-- The places of rules that stand in words one after the other.
use Prim.Native.Nat.{ℕ, ◌+◌, ◌≤◌, ◌<◌}
use native.Mathlib.Omega.{arith}
use mathlib.Core.Path.{◌≡◌, sym, subst}
use mathlib.Core.List.{List}
use lib.ListN.{length, get_or, take, set}
use lib.Seq.{get_or-set_same, get_or-set_other, get_or-take}
use borrow.Author.Count.{below_more}
use Rattle.rules.specs.Rules.{Rule}
use Rattle.stores.specs.RuleStore.{rules_from}
use Rattle.stores.proofs.StoredRules.{stored_more}
use Rattle.rule_index.specs.Meanings.{numbered}
use Rattle.rule_index.specs.Places.{PlaceOf, Placed}
use Rattle.rule_index.proofs.RuleWalk.{Walking, stored_here, rule_here}

-- the rules before i have their places
pub record Placing (n count : ℕ) (words places : List ℕ) (i : ℕ) : Type 0 where
  pub placed : (k : ℕ) → k < i → PlaceOf n words (numbered (rules_from count words) k) (get_or places k 0)

pub places_begin : (n count : ℕ) (words places : List ℕ) → Placing n count words places 0
places_begin n count words places = record { placed = λ k l. absurd (omega arith) }

module _ {n count : ℕ} {words places : List ℕ} {i : ℕ} (h : Placing n count words places i) where
  pub places_end : count ≤ i → Placed n count words places
  places_end l = record { place = λ k u. h.placed k (omega arith) }

  pub places_again : {at : ℕ} → Walking n count words at i → i < count → i < length places → Placing n count words (set places i at) (i + 1)
  places_again {at} w l r =
      let rs : List (Rule ℕ) = rules_from count words in
      let here : PlaceOf n words (numbered rs i) at = record { stored = stored_here w l; is = rule_here w l } in
      record {
        placed = below_more (λ k. PlaceOf n words (numbered rs k) (get_or (set places i at) k 0)) i
            (λ k u. let o : k ≡ i → ⊥ = λ q. omega arith in subst (PlaceOf n words (numbered rs k)) (sym (get_or-set_other places i k at 0 o)) (h.placed k u))
            (subst (PlaceOf n words (numbered rs i)) (sym (get_or-set_same places i at 0 r)) here);
      }

module _ {n c : ℕ} {words places : List ℕ} (h : Placed n c words places) where
  -- rules of fewer atoms are rules of more
  pub placed_more : {m : ℕ} → n ≤ m → Placed m c words places
  placed_more l = record { place = λ k u. let p = h.place k u in record { stored = stored_more l p.stored; is = p.is } }

  pub placed_front : Placed n c words (take c places)
  placed_front = record { place = λ k u. subst (PlaceOf n words (numbered (rules_from c words) k)) (sym (get_or-take c places k 0 u)) (h.place k u) }
