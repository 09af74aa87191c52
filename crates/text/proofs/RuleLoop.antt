-- A loop over the rules in the words of a store, which writes something of each.
use Prim.Native.Nat.{ℕ, suc, ◌+◌, ◌-◌, ◌≤◌, ◌<◌}
use native.Mathlib.Omega.{arith}
use mathlib.Core.Path.{◌≡◌, sym, ap, ap₂, ◌∙◌, subst}
use mathlib.Core.List.{List, ◌++◌}
use lib.ListN.{length, take, drop, length-drop}
use lib.Seq.{take_all, drop-drop}
use Rattle.rules.specs.Lists.{flat}
use Rattle.rules.specs.Rules.{Rule}
use Rattle.stores.specs.RuleStore.{places, rule_at, rules_from}
use Rattle.stores.specs.StoredRules.{StoredRule, StoredRules}
use Rattle.output.specs.Emitted.{Emitted, InRange}
use Rattle.output.proofs.Emitting.{Ahead, Emitting, start, turn, finish, range_here}

-- the rules that are left, from a place in the words
pub record RulesLeft (g : Rule ℕ → List ℕ) (n count : ℕ) (words before : List ℕ) (at : ℕ) (now : List ℕ) (next place i : ℕ) : Type 0 where
  pub stored : StoredRules n (count - i) (drop place words)
  pub so : Emitting (flat g (rules_from count words)) before at (flat g (rules_from (count - i) (drop place words))) now next

pub rules_begin : {g : Rule ℕ → List ℕ} {n count : ℕ} {words before : List ℕ} {at : ℕ} → StoredRules n count words → InRange at (flat g (rules_from count words)) → RulesLeft g n count words before at before at 0 0
rules_begin {g} {n} {count} {words} {before} {at} s r =
    let e : count ≡ count - 0 = omega arith in
    record {
      stored = subst (λ (k : ℕ). StoredRules n k words) e s;
      so = subst (λ (k : ℕ). Emitting (flat g (rules_from count words)) before at (flat g (rules_from k words)) before at) e (start r);
    }

module _ {g : Rule ℕ → List ℕ} {n count : ℕ} {words before : List ℕ} {at : ℕ} {now : List ℕ} {next place i : ℕ} (h : RulesLeft g n count words before at now next place i) where
  pub rules_end : count ≤ i → Emitted before at (flat g (rules_from count words)) now next
  unfolding rules_from
  rules_end l = let e : count - i ≡ 0 = omega arith in finish h.so (ap (λ (k : ℕ). flat g (rules_from k (drop place words))) e)

  module _ (l : i < count) where
    -- what the code hands on
    abbrev front : List ℕ
    front = take (length words - place) (drop place words)

    front_is : front ≡ drop place words
    front_is = take_all (length words - place) (drop place words) (omega (arith, length-drop place words))

    more : count - i ≡ suc (count - (i + 1))
    more = omega arith

    first_stored : StoredRule n (drop place words) × StoredRules n (count - (i + 1)) (drop (3 + places (drop place words)) (drop place words))
    first_stored = subst (λ (k : ℕ). StoredRules n k (drop place words)) more h.stored

    pub rule_stored : StoredRule n front
    rule_stored = subst (StoredRule n) (sym front_is) first_stored.0

    pub place_inside : place + (3 + places front) ≤ length words
    place_inside = omega (arith, first_stored.0.inside, length-drop place words, ap places front_is)

    rule_ahead : Ahead (flat g (rules_from (count - i) (drop place words))) (g (rule_at front)) (flat g (rules_from (count - (i + 1)) (drop (place + (3 + places front)) words)))
    unfolding rules_from
    rule_ahead =
        record {
          is =
              ap (λ (k : ℕ). flat g (rules_from k (drop place words))) more
              ∙ ap₂ (λ (u v : List ℕ). g (rule_at u) ++ flat g (rules_from (count - (i + 1)) v)) (sym front_is)
              (drop-drop (3 + places (drop place words)) place words ∙ ap (λ (u : List ℕ). drop (place + (3 + places u)) words) (sym front_is));
        }

    pub rule_range : InRange next (g (rule_at front))
    rule_range = range_here h.so rule_ahead

    pub rules_again : {size next' : ℕ} {now' : List ℕ} → size ≡ 3 + places front → Emitted now next (g (rule_at front)) now' next' → RulesLeft g n count words before at now' next' (place + size) (i + 1)
    rules_again {size} {next'} {now'} e p =
        subst (λ (k : ℕ). RulesLeft g n count words before at now' next' (place + k) (i + 1)) (sym e)
        (record {
          stored = subst (StoredRules n (count - (i + 1))) (drop-drop (3 + places (drop place words)) place words ∙ ap (λ (u : List ℕ). drop (place + (3 + places u)) words) (sym front_is)) first_stored.1;
          so = turn h.so rule_ahead p;
        })
