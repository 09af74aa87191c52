-- The rules in words passed one after the other: the atoms from a rule's place are those of the rule with its number.
use Prim.Native.Nat.{ℕ, suc, ◌+◌, ◌-◌, ◌≤◌, ◌<◌}
use native.Mathlib.Omega.{arith}
use native.Mathlib.Numerals.{add-one}
use mathlib.Core.Path.{◌≡◌, sym, ap, ap₂, ◌∙◌, subst}
use mathlib.Core.List.{List, [], ◌∷◌}
use lib.ListN.{length, get_or, take, drop, length-drop}
use lib.Seq.{drop-cons, drop-drop}
use Rattle.rules.specs.Lists.{All}
use Rattle.rules.specs.Rules.{Rule, rule}
use Rattle.rules.proofs.Lists.{part_rest}
use Rattle.stores.specs.RuleStore.{places, rule_at, rules_from}
use Rattle.stores.specs.StoredRules.{StoredRule, StoredRules}
use Rattle.stores.proofs.RuleStores.{rules_count}
use Rattle.restriction.specs.Atoms.{atoms_of}
use Rattle.restriction.proofs.RuleAtoms.{front_atoms, front_below}
use Rattle.rule_index.specs.Meanings.{numbered}

-- i of the rules are passed, and rule i is at `place`
pub record Walking (n count : ℕ) (words : List ℕ) (place i : ℕ) : Type 0 where
  pub low : i ≤ count
  pub stored : StoredRules n (count - i) (drop place words)
  pub rest : rules_from (count - i) (drop place words) ≡ drop i (rules_from count words)

pub walk_begins : {n count : ℕ} {words : List ℕ} → StoredRules n count words → Walking n count words 0 0
walk_begins {n} {count} {words} s =
    let e : count ≡ count - 0 = omega arith in
    record {
      low = omega arith;
      stored = subst (λ (k : ℕ). StoredRules n k words) e s;
      rest = ap (λ (k : ℕ). rules_from k words) (sym e);
    }

module _ {n count : ℕ} {words : List ℕ} {place i : ℕ} (w : Walking n count words place i) (l : i < count) where
  -- the words from there on, as the code takes them
  abbrev pub front : List ℕ
  front = take (length words - place) (drop place words)

  front_is : front ≡ drop place words
  front_is = part_rest place words

  more : count - i ≡ suc (count - (i + 1))
  more = omega arith

  split : StoredRule n (drop place words) × StoredRules n (count - (i + 1)) (drop (3 + places (drop place words)) (drop place words))
  split = subst (λ (k : ℕ). StoredRules n k (drop place words)) more w.stored

  pub stored_here : StoredRule n (drop place words)
  stored_here = split.0

  pub rule_inside : 3 + places front ≤ length front
  rule_inside = subst (λ (u : List ℕ). 3 + places u ≤ length u) (sym front_is) stored_here.inside

  pub place_inside : place + (3 + places front) ≤ length words
  place_inside = omega (arith, stored_here.inside, length-drop place words, ap places front_is)

  inside : i < length (rules_from count words)
  inside = omega (arith, rules_count count words)

  rules_here : rule_at (drop place words) ∷ rules_from (count - (i + 1)) (drop (3 + places (drop place words)) (drop place words)) ≡ numbered (rules_from count words) i ∷ drop (suc i) (rules_from count words)
  unfolding rules_from
  rules_here = ap (λ (k : ℕ). rules_from k (drop place words)) (sym more) ∙ w.rest ∙ drop-cons (rules_from count words) i (rule [] [] []) inside

  pub rule_here : rule_at (drop place words) ≡ numbered (rules_from count words) i
  rule_here = ap (λ (u : List (Rule ℕ)). get_or u 0 (rule [] [] [])) rules_here

  module _ {size : ℕ} (e : size ≡ 3 + places front) where
    pub rule_atoms : take (place + size - (place + 3)) (drop (place + 3) words) ≡ atoms_of (numbered (rules_from count words) i)
    rule_atoms =
        let k : place + size - (place + 3) ≡ places (drop place words) = omega (arith, e, ap places front_is) in
        ap₂ (λ (m : ℕ) (u : List ℕ). take m u) k (sym (drop-drop 3 place words)) ∙ front_atoms stored_here ∙ ap atoms_of rule_here

    pub atoms_below : All (λ a. a < n) (take (place + size - (place + 3)) (drop (place + 3) words))
    atoms_below = subst (All (λ a. a < n)) (ap atoms_of rule_here ∙ sym rule_atoms) (front_below stored_here)

    pub walk_again : Walking n count words (place + size) (i + 1)
    walk_again =
        let p : place + (3 + places (drop place words)) ≡ place + size = omega (arith, e, ap places front_is) in
        let d : drop (3 + places (drop place words)) (drop place words) ≡ drop (place + size) words = drop-drop (3 + places (drop place words)) place words ∙ ap (λ (m : ℕ). drop m words) p in
        record {
          low = omega arith;
          stored = subst (StoredRules n (count - (i + 1))) d split.1;
          rest =
              ap (rules_from (count - (i + 1))) (sym d) ∙ ap (drop 1) rules_here ∙ ap (λ (m : ℕ). drop m (rules_from count words)) (sym (add-one i));
        }
