-- Below an open choice only the rules close one whose last atom has just been decided, as the value that breaks them: those of one group.
use Prim.Native.Nat.{ℕ, suc, ◌+◌, ◌^◌, ◌≤◌, ◌<◌}
use mathlib.Core.Path.{◌≡◌, refl, sym, ap, ap₂, ◌∙◌, subst}
use mathlib.Core.Bool.{Bool, true, false, not, cond, ◌&&◌, ◌||◌, and-true}
use mathlib.Core.List.{List, [], ◌∷◌, map}
use native.Mathlib.Decide.{ℕ_discrete}
use native.Mathlib.Omega.{arith}
use lib.Dec.{T, eqb, eqb→eq}
use lib.Bits.{bit_and}
use lib.Count.{count_trailing_zeros}
use lib.ListN.{length, get_or}
use borrow.Author.Tests.{eq-eqb, ne_eqb}
use Rattle.kinds.specs.Limits.{walk_atoms}
use Rattle.rules.specs.Lists.{All, some, from}
use Rattle.rules.specs.Sets.{has, Out}
use Rattle.rules.specs.Rules.{Rule}
use Rattle.rules.proofs.Booleans.{T_of, T_and, T-and-l, T-and-r, bool_ext, stable, is_true_lem, eq_to_eqb}
use Rattle.rules.proofs.Lists.{all_from, all_both, all_zip}
use Rattle.rules.proofs.MappedLists.{some_map, from_suc}
use Rattle.rules.proofs.Rules.{all_out}
use Rattle.rules.proofs.Sets.{has_lt}
use Rattle.places.specs.Places.{mirror, place}
use Rattle.places.proofs.Places.{place_atoms}
use Rattle.masks.specs.Masks.{care_at, want_at}
use Rattle.masks.proofs.MaskBits.{has_and, none_in_zero}
use Rattle.choices.specs.Choices.{is_broken, is_closed, RuleBelow, RulesBelow}
use Rattle.groups.specs.Groups.{group_at, root_group, group_of, broken_in, GroupsOf}
use Rattle.descent.specs.Visits.{decide}
use Rattle.descent.proofs.Decided.{decided_low, decided_top, place_none}
use Rattle.groups.proofs.LowestBit.{lowest_least, lowest_is}
use Rattle.descent.proofs.ChoiceMasks.{broken_same, broken_at_lem, care_none}

-- the group of a rule, by the lowest bit that it cares for

module _ (care want : ℕ) where
  group_none : care ≡ 0 → group_of care want ≡ root_group
  unfolding group_of
  group_none e = ap (λ (b : Bool). cond b root_group (group_at (count_trailing_zeros 64 care) (has want (count_trailing_zeros 64 care)))) (eq-eqb care 0 e)

  group_some : (care ≡ 0 → ⊥) → group_of care want ≡ group_at (count_trailing_zeros 64 care) (has want (count_trailing_zeros 64 care))
  unfolding group_of
  group_some e = ap (λ (b : Bool). cond b root_group (group_at (count_trailing_zeros 64 care) (has want (count_trailing_zeros 64 care)))) (ne_eqb care 0 e)

  group_is : (k : ℕ) → k < 64 → T (has care k) → ((i : ℕ) → T (has care i) → k ≤ i) → group_of care want ≡ group_at k (has want k)
  group_is k l h low = group_some (λ e. omega (arith, has_lt care k h)) ∙ ap (λ (j : ℕ). group_at j (has want j)) (lowest_is 64 care k l h low)

  -- the root group is that of the bit past all atoms
  group_low : (k : ℕ) (v : Bool) → group_of care want ≡ group_at k v → (i : ℕ) → T (has care i) → k ≤ i
  group_low k v e i h = step (ℕ_discrete care 0)
    where
      digit : (b : Bool) → cond b 1 0 ≤ 1
      digit true = omega arith
      digit false = omega arith

      step : Dec (care ≡ 0) → k ≤ i
      step (yes z) = absurd (none_in_zero i (subst (λ (x : ℕ). T (has x i)) z h))
      step (no z) = omega (arith, group_some z, digit v, digit (has want (count_trailing_zeros 64 care)), lowest_least 64 care i h)

-- a rule with these masks is of the group, and broken at s
abbrev tested : ℕ → ℕ → ℕ → ℕ → Bool
tested group s c w = eqb (group_of c w) group && eqb (bit_and s c) w

-- one rule

module _ (n : ℕ) (few : n ≤ walk_atoms) (r : Rule ℕ) (below : RuleBelow n r) (plain : r.nots ≡ []) where
  abbrev care : ℕ
  care = care_at n r

  abbrev want : ℕ
  want = want_at n r

  rule_tested : (d k y group : ℕ) → d + k ≡ n → (group_of care want ≡ group → (i : ℕ) → T (has care i) → k ≤ i) → (T (is_broken d y r) → group_of care want ≡ group) → tested group (place n y) care want ≡ is_broken d y r
  rule_tested d k y group e low own =
      let here : Bool = eqb (group_of care want) group in
      let met : Bool = eqb (bit_and (place n y) care) want in
      let law = broken_at_lem n r below plain d k y e in
      bool_ext (here && met) (is_broken d y r)
      (λ t. law.1 (T-and-r here met t, low (eqb→eq (group_of care want) group (T-and-l here met t))))
      (λ t. T_and here met (eq_to_eqb (group_of care want) group (own t)) (law.0 t).0)

  rule_root : tested root_group (place n 0) care want ≡ is_broken 0 0 r
  rule_root = rule_tested 0 n 0 root_group (omega arith) (λ q i t. omega (arith, group_low care want walk_atoms false q i t)) (λ t. group_none care want (care_none n r 0 t))

  module _ (d k x : ℕ) (v : Bool) (e : suc d + k ≡ n) (h : x < 2 ^ d) (unbroken : Out (is_broken d x) r) where
    abbrev y : ℕ
    y = decide d v x

    module _ (met : T (eqb (bit_and (place n y) care) want)) (low : (i : ℕ) → T (has care i) → k ≤ i) where
      -- the atom just decided is one of the rule's: else it was broken before
      last : T (has care k)
      last = stable (has care k) (λ o. unbroken (T_of (broken_same d y x r (decided_low d x h v)) ((broken_at_lem n r below plain d (suc k) y (omega arith)).1 (met, λ i t. deeper o i t (ℕ_discrete i k)))))
        where
          deeper : (T (has care k) → ⊥) → (i : ℕ) → T (has care i) → Dec (i ≡ k) → suc k ≤ i
          deeper o i t (yes q) = absurd (o (subst (λ (j : ℕ). T (has care j)) q t))
          deeper o i t (no q) = omega (arith, low i t)

      wanted : has want k ≡ v
      wanted =
          let m : mirror n d ≡ k = omega arith in
          let now : has (place n y) k ≡ v = ap (has (place n y)) (sym m) ∙ place_atoms n y d (omega arith) ∙ decided_top d x h v in
          ap (λ (w : ℕ). has w k) (sym (eqb→eq (bit_and (place n y) care) want met)) ∙ has_and (place n y) care k ∙ ap₂ ◌&&◌ now (is_true_lem (has care k) last) ∙ and-true v

      of_group_lem : group_of care want ≡ group_at k v
      of_group_lem = group_is care want k (omega arith) last low ∙ ap (group_at k) wanted

    rule_closes : tested (group_at k v) (place n y) care want ≡ is_broken (suc d) y r
    rule_closes = rule_tested (suc d) k y (group_at k v) e (group_low care want k v) (λ t. let p = (broken_at_lem n r below plain (suc d) k y e).0 t in of_group_lem p.0 p.1)

-- all rules

by_number : {A : Type 0} (test : ℕ → ℕ → Bool) (f g : A → ℕ) (q : A → Bool) (l : List A) → All (λ a. test (f a) (g a) ≡ q a) l → some (λ i. test (get_or (map f l) i 0) (get_or (map g l) i 0)) (from 0 (length (map f l))) ≡ some q l
by_number test f g q [] h = refl
by_number test f g q (x ∷ l) h =
    let p : ℕ → Bool = λ i. test (get_or (map f (x ∷ l)) i 0) (get_or (map g (x ∷ l)) i 0) in
    let c = length (map f l) in
    ap₂ ◌||◌ h.0 (ap (some p) (from_suc 0 c) ∙ some_map suc p (λ i. p (suc i)) (from 0 c) (all_from (λ i. p (suc i) ≡ p (suc i)) 0 c (λ i u v. refl)) ∙ by_number test f g q l h.1)

module _ (n : ℕ) (few : n ≤ walk_atoms) (rs : List (Rule ℕ)) (below : RulesBelow n rs) (plain : All (λ r. r.nots ≡ []) rs) (care want starts : List ℕ)
    (groups : GroupsOf (map (care_at n) rs) (map (want_at n) rs) care want starts) where
  group_small : (k : ℕ) (v : Bool) → k < n → group_at k v ≤ root_group
  group_small k true l = omega arith
  group_small k false l = omega arith

  pub group_closes : (d k x : ℕ) (v : Bool) → suc d + k ≡ n → x < 2 ^ d → is_closed rs d x ≡ false → broken_in care want starts (group_at k v) (place n (decide d v x)) ≡ is_closed rs (suc d) (decide d v x)
  unfolding is_closed
  group_closes d k x v e h o =
      groups.tests (group_at k v) (place n (decide d v x)) (group_small k v (omega arith))
      ∙ by_number (tested (group_at k v) (place n (decide d v x))) (care_at n) (want_at n) (is_broken (suc d) (decide d v x)) rs
      (all_zip (λ r. RuleBelow n r × (r.nots ≡ [])) (Out (is_broken d x)) _ (λ r b u. rule_closes n few r b.0 b.1 d k x v e h u) rs
      (all_both (RuleBelow n) (λ r. r.nots ≡ []) rs below plain) ((all_out (is_broken d x) rs).0 (T_of (ap not (sym o)) tt)))

  pub root_closes : broken_in care want starts root_group 0 ≡ is_closed rs 0 0
  unfolding is_closed
  root_closes =
      ap (broken_in care want starts root_group) (sym (place_none n))
      ∙ groups.tests root_group (place n 0) (omega arith)
      ∙ by_number (tested root_group (place n 0)) (care_at n) (want_at n) (is_broken 0 0) rs
      (all_zip (RuleBelow n) (λ r. r.nots ≡ []) _ (λ r b u. rule_root n few r b u) rs below plain)
