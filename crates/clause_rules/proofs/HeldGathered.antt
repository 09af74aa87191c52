-- The scratch decodes to what it holds, and always has room.
use Prim.Native.Nat.{ℕ, ◌+◌, ◌*◌}
use native.Mathlib.Omega.{arith}
use mathlib.Core.Path.{◌≡◌, sym, ap, ap₂, ◌∙◌}
use mathlib.Core.List.{List, ◌++◌, append_assoc}
use lib.ListN.{drop, replicate, length-append, length-replicate}
use lib.Seq.{drop-drop, drop_at}
use Rattle.rules.specs.Lists.{flat}
use Rattle.stores.specs.RuleStore.{rule_words, rules_from}
use Rattle.stores.proofs.RuleStores.{rules_front, rules_length}
use Rattle.gathering.proofs.HeldState.{behind}
use Rattle.clauses.specs.Gathered.{Gathered}
use Rattle.clause_rules.specs.declared.clause.ClauseCounts.{ClauseCounts}
use Rattle.clause_rules.specs.HeldClauses.{held, HeldClauses}

module _ {g : Gathered} {c : ClauseCounts} {words bodies : List ℕ} (h : HeldClauses g c words bodies) where
  pub held_clauses_is : g ≡ held c words bodies
  unfolding held
  held_clauses_is =
      let classes = replicate {A = ℕ} c.atoms 1 in
      let stored = flat rule_words g.rules in
      let rest = h.stored.rest in
      let past : drop (4 + c.atoms) words ≡ stored ++ rest =
      sym (drop-drop c.atoms 4 words)
      ∙ ap (drop c.atoms) (behind h.stored ∙ append_assoc classes stored rest)
      ∙ drop_at classes (stored ++ rest) c.atoms (length-replicate c.atoms 1) in
      let rules : rules_from c.rules (drop (4 + c.atoms) words) ≡ g.rules = ap₂ rules_from h.rules_are past ∙ rules_front g.rules rest in
      λ i. record { rules = sym rules i; heads = sym h.heads_stored i; bodies = sym h.bodies_stored i }

  -- the words of all clauses that have begun, but for the counts of the last
  pub words_used : c.words + c.heads + c.bodies ≡ 4 + c.atoms + 3 * c.rules + c.occurrences
  words_used =
      omega (
        arith,
        h.stored.ends,
        length-append (replicate c.atoms 1) (flat rule_words g.rules),
        length-replicate {A = ℕ} c.atoms 1,
        rules_length g.rules,
        h.rules_are,
        h.heads_are,
        h.bodies_are,
        h.occurrences_are,
      )
