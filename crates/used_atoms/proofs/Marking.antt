-- Marks set one after the other.
use Prim.Native.Nat.{ℕ, suc, ◌+◌, ◌-◌, ◌≤◌, ◌<◌}
use native.Mathlib.Decide.{ℕ_discrete}
use native.Mathlib.Omega.{arith}
use mathlib.Core.Path.{◌≡◌, refl, sym, ap, ap₂, ◌∙◌, subst}
use mathlib.Core.Bool.{Bool, true, false, ◌||◌}
use mathlib.Core.List.{List}
use lib.Dec.{eqb}
use lib.ListN.{length, get_or, take, drop, set, length-set, length-drop, drop_of_length-le}
use lib.Seq.{drop-drop, get_or-set_same, get_or-set_other}
use borrow.Author.Tests.{eq-eqb, ne_eqb}
use Rattle.rules.specs.Lists.{All}
use Rattle.rules.proofs.Lists.{all_at, part_rest}
use Rattle.stores.specs.RuleStore.{places, rule_at, rules_from}
use Rattle.stores.specs.StoredRules.{StoredRule, StoredRules}
use Rattle.output.proofs.Emitting.{byte_next}
use Rattle.restriction.specs.Atoms.{is_member, atoms_of, is_used}
use Rattle.used_atoms.specs.Marks.{Marks}

or_swap : (a b c : Bool) → (b || (a || c)) ≡ ((a || b) || c)
or_swap true true c = refl
or_swap true false c = refl
or_swap false true c = refl
or_swap false false c = refl

-- what is marked and what is left to mark are all that the test wants
pub record Marking (t left : ℕ → Bool) (before now : List Bool) : Type 0 where
  pub mark : (a : ℕ) → (left a || get_or now a false) ≡ (t a || get_or before a false)
  pub size : length now ≡ length before

begin : (t : ℕ → Bool) {before : List Bool} → Marking t t before before
begin t = record { mark = λ a. refl; size = refl }

module _ {t left : ℕ → Bool} {before now : List Bool} (h : Marking t left before now) where
  again : (step rest : ℕ → Bool) {now' : List Bool} → ((a : ℕ) → left a ≡ (step a || rest a)) → Marks step now now' → Marking t rest before now'
  again step rest {now'} e m = record {
    mark = λ a. ap (λ (b : Bool). rest a || b) (m.mark a) ∙ or_swap (step a) (rest a) (get_or now a false) ∙ ap (λ (b : Bool). b || get_or now a false) (sym (e a)) ∙ h.mark a;
    size = m.size ∙ h.size;
  }

  end : ((a : ℕ) → left a ≡ false) → Marks t before now
  end e = record { mark = λ a. ap (λ (b : Bool). b || get_or now a false) (sym (e a)) ∙ h.mark a; size = h.size }

one_marked : (marks : List Bool) (x : ℕ) → x < length marks → Marks (λ a. eqb a x) marks (set marks x true)
one_marked marks x l = record { mark = λ a. go a (ℕ_discrete a x); size = length-set marks x true }
  where
    go : (a : ℕ) → Dec (a ≡ x) → get_or (set marks x true) a false ≡ (eqb a x || get_or marks a false)
    go a (yes e) = ap (λ (k : ℕ). get_or (set marks x true) k false) e ∙ get_or-set_same marks x true false l ∙ sym (ap (λ (b : Bool). b || get_or marks a false) (eq-eqb a x e))
    go a (no e) = get_or-set_other marks x a true false e ∙ sym (ap (λ (b : Bool). b || get_or marks a false) (ne_eqb a x e))

-- the atoms of a list

pub record AtomsLeft (atoms : List ℕ) (before now : List Bool) (i : ℕ) : Type 0 where
  pub below : All (λ a. a < length before) atoms
  pub so : Marking (is_member atoms) (is_member (drop i atoms)) before now

pub atoms_begin : {atoms : List ℕ} {before : List Bool} → All (λ a. a < length before) atoms → AtomsLeft atoms before before 0
atoms_begin {atoms} b = record { below = b; so = begin (is_member atoms) }

module _ {atoms : List ℕ} {before now : List Bool} {i : ℕ} (h : AtomsLeft atoms before now i) where
  pub atoms_end : length atoms ≤ i → Marks (is_member atoms) before now
  atoms_end l = end h.so (λ a. ap (λ (r : List ℕ). is_member r a) (drop_of_length-le atoms l))

  module _ (l : i < length atoms) where
    pub atom_inside : get_or atoms i 0 < length now
    atom_inside = omega (arith, all_at (λ a. a < length before) 0 atoms h.below i l, h.so.size)

    pub atoms_again : AtomsLeft atoms before (set now (get_or atoms i 0) true) (i + 1)
    atoms_again = record {
      below = h.below;
      so = again h.so (λ a. eqb a (get_or atoms i 0)) (is_member (drop (i + 1) atoms)) (λ a. ap (λ (r : List ℕ). is_member r a) (byte_next atoms i l).is) (one_marked now (get_or atoms i 0) atom_inside);
    }

-- the rules in words, one after the other

pub record RulesLeft (count : ℕ) (words : List ℕ) (before now : List Bool) (place i : ℕ) : Type 0 where
  pub stored : StoredRules (length before) (count - i) (drop place words)
  pub so : Marking (is_used (rules_from count words)) (is_used (rules_from (count - i) (drop place words))) before now

pub rules_begin : {count : ℕ} {words : List ℕ} {before : List Bool} → StoredRules (length before) count words → RulesLeft count words before before 0 0
rules_begin {count} {words} {before} s =
    let e : count ≡ count - 0 = omega arith in
    record {
      stored = subst (λ (k : ℕ). StoredRules (length before) k words) e s;
      so = subst (λ (k : ℕ). Marking (is_used (rules_from count words)) (is_used (rules_from k words)) before before) e (begin (is_used (rules_from count words)));
    }

module _ {count : ℕ} {words : List ℕ} {before now : List Bool} {place i : ℕ} (h : RulesLeft count words before now place i) where
  pub rules_end : count ≤ i → Marks (is_used (rules_from count words)) before now
  unfolding rules_from
  rules_end l = let e : count - i ≡ 0 = omega arith in end h.so (λ a. ap (λ (k : ℕ). is_used (rules_from k (drop place words)) a) e)

  module _ (l : i < count) where
    abbrev front : List ℕ
    front = take (length words - place) (drop place words)

    front_is : front ≡ drop place words
    front_is = part_rest place words

    more : count - i ≡ suc (count - (i + 1))
    more = omega arith

    first_stored : StoredRule (length before) (drop place words) × StoredRules (length before) (count - (i + 1)) (drop (3 + places (drop place words)) (drop place words))
    first_stored = subst (λ (k : ℕ). StoredRules (length before) k (drop place words)) more h.stored

    pub rule_stored : StoredRule (length now) front
    rule_stored = subst (λ (n : ℕ). StoredRule n front) (sym h.so.size) (subst (StoredRule (length before)) (sym front_is) first_stored.0)

    pub place_inside : place + (3 + places front) ≤ length words
    place_inside = omega (arith, first_stored.0.inside, length-drop place words, ap places front_is)

    after : drop (3 + places (drop place words)) (drop place words) ≡ drop (place + (3 + places front)) words
    after = drop-drop (3 + places (drop place words)) place words ∙ ap (λ (u : List ℕ). drop (place + (3 + places u)) words) (sym front_is)

    first_rule : (a : ℕ) → is_used (rules_from (count - i) (drop place words)) a ≡ (is_member (atoms_of (rule_at front)) a || is_used (rules_from (count - (i + 1)) (drop (place + (3 + places front)) words)) a)
    unfolding rules_from
    first_rule a =
        ap (λ (k : ℕ). is_used (rules_from k (drop place words)) a) more
        ∙ ap₂ (λ (u v : List ℕ). is_member (atoms_of (rule_at u)) a || is_used (rules_from (count - (i + 1)) v) a) (sym front_is) after

    pub rules_again : {size : ℕ} {now' : List Bool} → size ≡ 3 + places front → Marks (is_member (atoms_of (rule_at front))) now now' → RulesLeft count words before now' (place + size) (i + 1)
    rules_again {size} {now'} e m =
        subst (λ (k : ℕ). RulesLeft count words before now' (place + k) (i + 1)) (sym e)
        (record {
          stored = subst (StoredRules (length before) (count - (i + 1))) after first_stored.1;
          so = again h.so (is_member (atoms_of (rule_at front))) (is_used (rules_from (count - (i + 1)) (drop (place + (3 + places front)) words))) first_rule m;
        })
