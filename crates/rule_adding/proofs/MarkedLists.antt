-- An index grown by the marks of a rule's atoms is the index grown by the rule.
use Prim.Native.Nat.{ℕ, zero, suc, ◌+◌, ◌≤◌, ◌<◌}
use native.Mathlib.Omega.{arith}
use mathlib.Core.Path.{◌≡◌, refl, sym, ap, ap₂, subst, ◌∙◌}
use mathlib.Core.Bool.{Bool, false, ◌||◌}
use mathlib.Core.List.{List, [], ◌++◌}
use lib.ListN.{length, get_or, take, drop, replicate, length-replicate, get_or-replicate}
use lib.Seq.{drop-cons, length-take-le}
use Rattle.rules.specs.Lists.{keep}
use Rattle.rules.specs.Rules.{Rule}
use Rattle.rules.proofs.Booleans.{or-false}
use Rattle.stores.specs.RuleStore.{rule_at, rules_from}
use Rattle.restriction.specs.Atoms.{is_used}
use Rattle.used_atoms.specs.Marks.{Marks}
use Rattle.output.specs.Emitted.{Emitted, InRange}
use Rattle.output.proofs.Emitting.{range_renamed, renamed}
use Rattle.rule_index.specs.Index.{is_standing, counted}
use Rattle.rule_index.specs.Growth.{grown_index}
use Rattle.rule_adding.specs.GrownLists.{CountedLists, grown_list, grown_lists}

by_marks : (r : Rule ℕ) (i : ℕ) (marks : List Bool) → ((a : ℕ) → a < length marks → get_or marks a false ≡ is_standing a r) → (a n : ℕ) (ws : List ℕ) → a + n ≤ length marks
    → grown_lists i (take n (drop a marks)) ws ≡ grown_index r i a n ws
unfolding grown_lists grown_list grown_index
by_marks r i marks e a zero ws l = refl
by_marks r i marks e a (suc n) ws l =
    ap (λ (m : List Bool). grown_lists i (take (suc n) m) ws) (drop-cons marks a false (omega arith))
    ∙ ap₂ (λ (b : Bool) (rest : List ℕ). counted (take (get_or ws 0 0) (drop 1 ws) ++ keep b i []) ++ rest) (e a (omega arith)) (by_marks r i marks e (suc a) n (drop (1 + get_or ws 0 0) ws) (omega arith))

module _ (rule : List ℕ) {size : ℕ} {marks : List Bool} (m : Marks (is_used (rules_from 1 rule)) (replicate size false) marks) (n : ℕ) (room : n ≤ size) where
  as_many : length marks ≡ size
  as_many = m.size ∙ length-replicate size false

  marked : (a : ℕ) → a < length marks → get_or marks a false ≡ is_standing a (rule_at rule)
  unfolding rules_from
  marked a l =
      let stands = is_standing a (rule_at rule) in
      m.mark a ∙ ap (λ (b : Bool). (stands || false) || b) (get_or-replicate size a false false (omega (arith, as_many))) ∙ or-false (stands || false) ∙ or-false stands

  pub marks_length : length (take n marks) ≡ n
  marks_length = length-take-le n marks (omega (arith, as_many))

  module _ (i : ℕ) (index : List ℕ) where
    grown : grown_lists i (take n marks) index ≡ grown_index (rule_at rule) i 0 n index
    grown = by_marks (rule_at rule) i marks marked 0 n index (omega (arith, as_many))

    pub lists_ready : CountedLists n index → length index ≤ 65535 → InRange 0 (grown_index (rule_at rule) i 0 n index)
        → CountedLists (length (take n marks)) index × (length index ≤ 65535) × InRange 0 (grown_lists i (take n marks) index)
    lists_ready c s r = (subst (λ (k : ℕ). CountedLists k index) (sym marks_length) c, s, range_renamed r (sym grown))

    pub index_grown : {d d' : List ℕ} {next : ℕ} → Emitted d 0 (grown_lists i (take n marks) index) d' next → Emitted d 0 (grown_index (rule_at rule) i 0 n index) d' next
    index_grown p = renamed p grown
