-- The counts and the atoms of the rule at the front of words.
use Prim.Native.Nat.{ℕ, ◌+◌, ◌-◌, ◌<◌}
use native.Mathlib.Omega.{arith}
use mathlib.Core.Path.{◌≡◌, sym, ap, ap₂, ◌∙◌, subst}
use mathlib.Core.Bool.{Bool}
use mathlib.Core.List.{List, ◌∷◌, ◌++◌, map}
use lib.ListN.{length, get_or, take, drop, length-append, length-map}
use Rattle.rules.specs.Lists.{All}
use Rattle.rules.specs.Rules.{Rule, rename}
use Rattle.stores.specs.RuleStore.{places, rule_at, rule_words}
use Rattle.stores.specs.StoredRules.{StoredRule}
use Rattle.stores.proofs.RuleTests.{rule_words_lem}
use Rattle.output.specs.Emitted.{Emitted, InRange}
use Rattle.output.proofs.Emitting.{Ahead, then, renamed}
use Rattle.restriction.specs.Atoms.{is_member, atoms_of, entries}
use Rattle.restriction.proofs.Places.{atoms_renamed}
use Rattle.restriction.proofs.RuleAtoms.{front_atoms, front_below}
use Rattle.used_atoms.specs.Marks.{Marks}

-- the atoms, as the code takes them
abbrev atom_part : List ℕ → ℕ → List ℕ
atom_part ws size = take (size - 3) (drop 3 ws)

-- a rule's words, its atoms by other numbers
abbrev pub moved_words : List ℕ → Rule ℕ → List ℕ
moved_words numbers r = rule_words (rename (λ a. get_or numbers a 0) r)

module _ {n : ℕ} {ws : List ℕ} (s : StoredRule n ws) {size : ℕ} (e : size ≡ 3 + places ws) where
  atom_part_lem : atom_part ws size ≡ atoms_of (rule_at ws)
  atom_part_lem = let k : size - 3 ≡ places ws = omega arith in ap (λ (m : ℕ). take m (drop 3 ws)) k ∙ front_atoms s

  pub part_below : All (λ a. a < n) (atom_part ws size)
  part_below = subst (All (λ a. a < n)) (sym atom_part_lem) (front_below s)

  pub part_marked : {before after : List Bool} → Marks (is_member (atom_part ws size)) before after → Marks (is_member (atoms_of (rule_at ws))) before after
  part_marked {before} {after} m = subst (λ (l : List ℕ). Marks (is_member l) before after) atom_part_lem m

  moved_parts : (f : ℕ → ℕ) → rule_words (rename f (rule_at ws)) ≡ take 3 ws ++ map f (atom_part ws size)
  moved_parts f =
      let r = rule_at ws in
      (λ i. length-map r.head f i ∷ length-map r.body f i ∷ length-map r.nots f i ∷ sym (atoms_renamed f r) i)
      ∙ ap₂ (λ (u v : List ℕ). u ++ map f v) (ap (take 3) (rule_words_lem ws s.inside)) (sym atom_part_lem)

  module _ (numbers : List ℕ) {at : ℕ} (range : InRange at (moved_words numbers (rule_at ws))) where
    parts_ahead : Ahead (moved_words numbers (rule_at ws)) (take 3 ws) (entries 0 numbers (atom_part ws size))
    parts_ahead = record { is = moved_parts (λ a. get_or numbers a 0) }

    module _ {d d' : List ℕ} {next : ℕ} (p : Emitted d at (take 3 ws) d' next) where
      pub atoms_range : InRange next (entries 0 numbers (atom_part ws size))
      atoms_range = record { below = omega (arith, p.place, range.below, ap length parts_ahead.is ∙ length-append (take 3 ws) (entries 0 numbers (atom_part ws size))) }

      pub rule_moved : {d'' : List ℕ} {end : ℕ} → Emitted d' next (entries 0 numbers (atom_part ws size)) d'' end → Emitted d at (moved_words numbers (rule_at ws)) d'' end
      rule_moved q = renamed (then p q) (sym parts_ahead.is)
