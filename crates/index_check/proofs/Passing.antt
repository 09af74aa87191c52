-- The rules read one after the other in the lists of their atoms.
use Prim.Native.Nat.{ℕ, suc, ◌+◌, ◌-◌, ◌≤◌, ◌<◌}
use native.Mathlib.Numerals.{add-one}
use native.Mathlib.Omega.{arith}
use mathlib.Core.Path.{◌≡◌, refl, sym, ap, ap₂, subst, ◌∙◌}
use mathlib.Core.Bool.{Bool, true, false, not, cond}
use mathlib.Core.List.{List}
use lib.ListN.{length, get_or, take, drop, set, length-set}
use borrow.Author.Tests.{not-true, not-false}
use Rattle.rules.specs.Lists.{All, every, from}
use Rattle.rules.specs.Rules.{Rule}
use Rattle.rules.proofs.Lists.{all_imp}
use Rattle.stores.specs.Checking.{Below}
use Rattle.stores.specs.RuleStore.{places, rules_from}
use Rattle.stores.specs.StoredRules.{StoredRules}
use Rattle.stores.proofs.Marks.{below_more}
use Rattle.stores.proofs.RuleStores.{rules_count}
use Rattle.restriction.specs.Atoms.{is_member}
use Rattle.rule_index.specs.Index.{rules_with}
use Rattle.rule_index.specs.Passing.{Raised}
use Rattle.rule_index.proofs.RuleNumbers.{with_count}
use Rattle.rule_index.specs.Places.{list_at, Placed}
use Rattle.index_check.specs.Lists.{entry_at, is_entry, are_entries, is_listed, are_all_listed, Tabled, Lists, Read}
use Rattle.index_check.proofs.Each.{every_same, EachLeft, each_begin, numbers_end, numbers_fails, numbers_again}
use Rattle.index_check.proofs.Finding.{lists_rise}
use Rattle.rule_index.proofs.RuleWalk.{Walking, walk_begins, rule_atoms, atoms_below, walk_again}
use Rattle.rule_index.proofs.RulePlaces.{Placing, places_begin, places_end, places_again}

pub apart : false ≡ true → ⊥
apart t = let z : ◌≡◌ {A = ℕ} 0 1 = cc in omega arith

-- one entry further, or not
raise : (t : Bool) (p l l' v v' : ℕ) → v ≡ p + l → v' ≡ cond t (suc v) v → l' ≡ cond t (suc l) l → v' ≡ p + l'
raise true p l l' v v' a b c = omega arith
raise false p l l' v v' a b c = omega arith

-- the first i rules are read, and have their places in `starts`
pub record Passing (words : List ℕ) (count : ℕ) (ws next₀ ends marks₀ starts₀ next marks starts : List ℕ) (place i : ℕ) : Type 0 where
  pub walk : Walking (length next₀) count words place i
  pub few : count < 65535
  pub lists : Lists ws next₀ ends
  pub has_ends : length next₀ ≤ length ends
  pub has_marks : length next₀ ≤ length marks₀
  pub has_starts : count ≤ length starts₀
  pub next_long : length next ≡ length next₀
  pub marks_long : length marks ≡ length marks₀
  pub starts_long : length starts ≡ length starts₀
  pub below : Below (i + 1) marks
  pub read : Read ws (rules_from count words) i next
  pub left : EachLeft (is_listed ws (rules_from count words)) (from 0 count) i
  pub placing : Placing (length next₀) count words starts i

pub pass_begin : {words : List ℕ} {count : ℕ} {ws next ends marks starts : List ℕ} → StoredRules (length next) count words × (count < 65535) × Lists ws next ends
    → (length next ≤ length ends) × (length next ≤ length marks) × Below 1 marks × (count ≤ length starts) → Passing words count ws next ends marks starts next marks starts 0 0
unfolding entry_at rules_with
pass_begin {words} {count} {ws} {next} {starts = starts} s r = record {
  walk = walk_begins s.0;
  few = s.1;
  lists = s.2;
  has_ends = r.0;
  has_marks = r.1;
  has_starts = r.3;
  next_long = refl;
  marks_long = refl;
  starts_long = refl;
  below = r.2;
  read = record { place = λ a l. omega (arith, s.2.begin a l) };
  left = each_begin (is_listed ws (rules_from count words)) (from 0 count);
  placing = places_begin (length next) count words starts;
}

module _ {words : List ℕ} {count : ℕ} {ws next₀ ends marks₀ starts₀ next marks starts : List ℕ} {place i : ℕ} (h : Passing words count ws next₀ ends marks₀ starts₀ next marks starts place i) where
  abbrev rs : List (Rule ℕ)
  rs = rules_from count words

  -- what is answered of the rules
  abbrev Answer : List ℕ → List ℕ → Bool → Type 0
  Answer next' starts' r = (r ≡ are_all_listed ws rs) × ((r ≡ true → Read ws rs count next') × (r ≡ true → Placed (length next₀) count words starts'))

  listed : (r : Bool) → r ≡ every (is_listed ws rs) (from 0 count) → r ≡ are_all_listed ws rs
  listed r e = e ∙ ap (λ (k : ℕ). every (is_listed ws rs) (from 0 k)) (sym (rules_count count words))

  pub pass_end : count ≤ i → Answer next starts true
  pass_end l =
      let e : i ≡ count = omega (arith, h.walk.low) in
      (listed true (numbers_end h.left l), (λ t. subst (λ (k : ℕ). Read ws rs k next) e h.read, λ t. places_end h.placing l))

  pub start_inside : i < count → i < length starts
  start_inside l = omega (arith, h.has_starts, h.starts_long)

  module _ (l : i < count) {size : ℕ} (e : size ≡ 3 + places (take (length words - place) (drop place words))) where
    -- the rule's atoms, as the code takes them
    abbrev part : List ℕ
    part = take (place + size - (place + 3)) (drop (place + 3) words)

    below_part : All (λ a. a < length next₀) part
    below_part = atoms_below h.walk l e

    pub rule_tables : All (Tabled ws next ends marks) part
    rule_tables = all_imp (λ a. a < length next₀) (Tabled ws next ends marks) (λ a u. record {
      has_next = omega (arith, h.next_long);
      has_end = omega (arith, h.has_ends);
      has_mark = omega (arith, h.has_marks, h.marks_long);
      inside = omega (arith, h.lists.end a u, lists_rise ws (suc a) (length next₀) u, h.lists.whole);
    }) part below_part

    here : are_entries ws next ends i part ≡ is_listed ws rs i
    unfolding are_entries is_listed
    here =
        every_same (λ a. is_entry ws (get_or next a 0) (get_or ends a 0) i) (λ a. is_entry ws (entry_at ws rs i a) (list_at ws (suc a)) i) part
        (all_imp (λ a. a < length next₀) (λ a. is_entry ws (get_or next a 0) (get_or ends a 0) i ≡ is_entry ws (entry_at ws rs i a) (list_at ws (suc a)) i)
        (λ a u. ap₂ (λ (x y : ℕ). is_entry ws x y i) (h.read.place a (omega (arith, h.next_long))) (h.lists.end a u)) part below_part)
        ∙ ap (every (λ a. is_entry ws (entry_at ws rs i a) (list_at ws (suc a)) i)) (rule_atoms h.walk l e)

    moved : {next' : List ℕ} → Raised (is_member part) next next' → (a : ℕ) → a < length next → get_or next' a 0 ≡ entry_at ws rs (i + 1) a
    unfolding entry_at
    moved {next'} k a u =
        let before : ℕ = length (rules_with a (take i rs)) in
        let c : length (rules_with a (take (suc i) rs)) ≡ cond (is_member part a) (suc before) before =
        with_count a i rs (omega (arith, rules_count count words)) ∙ ap (λ (xs : List ℕ). cond (is_member xs a) (suc before) before) (sym (rule_atoms h.walk l e)) in
        raise (is_member part a) (suc (list_at ws a)) before (length (rules_with a (take (suc i) rs))) (get_or next a 0) (get_or next' a 0) (h.read.place a u) (k.each a) c
        ∙ ap (λ (j : ℕ). suc (list_at ws a) + length (rules_with a (take j rs))) (sym (add-one i))

    module _ {r : Bool} (q : r ≡ are_entries ws next ends i part) where
      pub not_listed : {next' starts' : List ℕ} → not r ≡ true → Answer next' starts' false
      not_listed f = (listed false (numbers_fails h.left l (sym here ∙ sym q ∙ not-true r f)), (λ t. absurd (apart t), λ t. absurd (apart t)))

      pub pass_again : {next' marks' : List ℕ} → not r ≡ false → (r ≡ true → Raised (is_member part) next next') → Below (i + 2) marks' → length marks' ≡ length marks
          → Passing words count ws next₀ ends marks₀ starts₀ next' marks' (set starts i place) (place + size) (i + 1)
      pass_again {next'} f p b m = let t = not-false r f in record {
        walk = walk_again h.walk l e;
        few = h.few;
        lists = h.lists;
        has_ends = h.has_ends;
        has_marks = h.has_marks;
        has_starts = h.has_starts;
        next_long = (p t).size ∙ h.next_long;
        marks_long = m ∙ h.marks_long;
        starts_long = length-set starts i place ∙ h.starts_long;
        below = below_more b (omega arith);
        read = record { place = λ a u. moved (p t) a (omega (arith, (p t).size)) };
        left = numbers_again h.left l (sym here ∙ sym q ∙ t);
        placing = places_again h.placing h.walk l (start_inside l);
      }
