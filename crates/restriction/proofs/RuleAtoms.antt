-- The atoms of a rule at the front of words stand behind its three counts.
use Prim.Native.Nat.{ℕ, ◌+◌, ◌<◌}
use native.Mathlib.Omega.{arith}
use mathlib.Core.Path.{◌≡◌, sym, ap, ◌∙◌}
use mathlib.Core.List.{List, ◌++◌}
use lib.ListN.{length, take, drop, length-append}
use lib.Seq.{take_at}
use Rattle.rules.specs.Lists.{All}
use Rattle.rules.proofs.Lists.{all_app}
use Rattle.stores.specs.RuleStore.{places, rule_at}
use Rattle.stores.specs.StoredRules.{StoredRule}
use Rattle.stores.proofs.RuleTests.{rule_words_lem, occurrences_places}
use Rattle.restriction.specs.Atoms.{atoms_of}

module _ {n : ℕ} {ws : List ℕ} (s : StoredRule n ws) where
  pub front_atoms : take (places ws) (drop 3 ws) ≡ atoms_of (rule_at ws)
  front_atoms =
      let r = rule_at ws in
      let l : length (atoms_of r) ≡ places ws = omega (arith, occurrences_places ws s.inside, length-append r.head (r.body ++ r.nots), length-append r.body r.nots) in
      ap (λ (u : List ℕ). take (places ws) (drop 3 u)) (sym (rule_words_lem ws s.inside)) ∙ take_at (atoms_of r) (drop (3 + places ws) ws) (places ws) l

  pub front_below : All (λ a. a < n) (atoms_of (rule_at ws))
  front_below =
      let r = rule_at ws in
      all_app (λ a. a < n) r.head (r.body ++ r.nots) s.heads (all_app (λ a. a < n) r.body r.nots s.bodies s.nots)
