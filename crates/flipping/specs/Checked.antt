-- A call that has none of the faults 10, 19, 11 and 12.
use Rattle.std.specs.Prelude.{ℕ, ◌^◌, ◌≤◌, ◌<◌, ◌≡◌, true, List, length}
use Rattle.kinds.specs.Limits.{walk_atoms}
use Rattle.rules.specs.Lists.{over}
use Rattle.stores.specs.RuleStore.{decode}
use Rattle.stores.specs.StoredRules.{HeaderOf}
use Rattle.stores.specs.declared.rule_store.Header.{Header}
use Rattle.rule_index.specs.Answers.{store_index, is_listed, fitted, filled_words}

pub record Checked (rules : List ℕ) (header : Header) (index list : List ℕ) (set atom : ℕ) : Type 0 where
  pub read : HeaderOf (decode rules) rules header
  pub indexed : index ≡ store_index rules
  pub rises : is_listed rules list ≡ true
  pub few : header.atoms ≤ walk_atoms
  pub set_inside : set < 2 ^ header.atoms
  pub atom_inside : atom < header.atoms

-- what is left in an output into which the words go where it has room
abbrev pub fitted_output : List ℕ → List ℕ → List ℕ
fitted_output ws before = over (filled_words (fitted ws (length before)) ws) before
