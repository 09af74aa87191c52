-- Which refusals the entry points over the index of rules give (document 02, W-209), and what the lent buffers then hold.
use Rattle.std.specs.Prelude.{ℕ, ◌^◌, ◌≤◌, ◌<◌, ◌≡◌, ◌↔◌, ◌⊎◌, ◌≢◌, Result, Ok, Err, List, ◌++◌, length, drop}
use Rattle.kinds.specs.Limits.{walk_atoms}
use Rattle.kinds.specs.declared.refusals.Refusal.{Refusal}
use Rattle.kinds.specs.declared.refusals.Refusal.TheVariants.{Output, RuleStore, TooManyAtoms, SetNumber, RuleIndex}
use Rattle.rules.specs.Lists.{All}
use Rattle.rules.specs.Rules.{Rule}
use Rattle.stores.specs.Program.{Program, ProgramForm}
use Rattle.stores.specs.RuleStore.{StoreOf, rule_words, decode}
use Rattle.rule_index.specs.Index.{index_of}
use Rattle.rule_index.specs.Flip.{after_flip}
use Rattle.rule_index.specs.Growth.{with_rule, grown_store}
use Rattle.rule_index.specs.Meanings.{Rising}
use Rattle.rule_index.specs.Answers.{grown_sizes, store_index, index_answer, index_output, flip_list, flip_answer, flip_output, add_answer, add_store, add_index}
use Rattle.answers.specs.Refusals.{Tested, NoOther, NoStore, TooShort}

-- 10, of a rule too: the words are no rule with which the store would be of the form
abbrev pub NoGrowth : List ℕ → List ℕ → Type 0
NoGrowth rules words = (p : Program) (r : Rule ℕ) → StoreOf rules p → rule_words r ≡ words → ProgramForm (with_rule p r) → ⊥

-- 19: index not that of the store, or the list not rising rule numbers below r
abbrev pub NoIndex : List ℕ → List ℕ → Type 0
NoIndex rules index = index ≢ store_index rules

abbrev pub NoList : List ℕ → List ℕ → Type 0
NoList rules list = Rising list × All (λ i. i < length (decode rules).rules) list → ⊥

-- 12: set number 2^n or more, or atom number n or more
abbrev pub Outside : List ℕ → ℕ → ℕ → Type 0
Outside rules set atom = (2 ^ (decode rules).atoms ≤ set) ⊎ ((decode rules).atoms ≤ atom)

-- what is written into a lent output of words
pub record Fills (answer : Result ℕ Refusal) (result before after : List ℕ) : Type 0 where
  pub refused : (r : Refusal) → answer ≡ Err r → after ≡ before
  pub filled : (size : ℕ) → answer ≡ Ok size → (size ≡ length result) × (after ≡ result ++ drop size before)

-- the index of a store of either kind: 10, 9
pub record IndexRefuses (rules before : List ℕ) : Type 0 where
  pub refused : (r : Refusal) → index_answer rules (length before) ≡ Err r ↔ Tested RuleStore (NoStore rules) (Tested Output (TooShort (store_index rules) (length before)) NoOther) r
  pub output : Fills (index_answer rules (length before)) (store_index rules) before (index_output rules before)

-- a flip: 10, 19, 11, 12, 9
pub record FlipRefuses (rules index list : List ℕ) (set atom : ℕ) (before : List ℕ) : Type 0 where
  pub refused : (r : Refusal) → flip_answer rules index list set atom (length before) ≡ Err r
      ↔ Tested RuleStore (NoStore rules)
      (Tested RuleIndex (NoIndex rules index ⊎ NoList rules list)
      (Tested TooManyAtoms (walk_atoms < (decode rules).atoms)
      (Tested SetNumber (Outside rules set atom)
      (Tested Output (TooShort (flip_list rules list set atom) (length before)) NoOther)))) r
  pub output : Fills (flip_answer rules index list set atom (length before)) (flip_list rules list set atom) before (flip_output rules index list set atom before)

-- a rule added: 10, 19, 9 for either output
pub record AddRefuses (rules index words before index_before : List ℕ) : Type 0 where
  pub refused : (r : Refusal) → add_answer rules index words (length before) (length index_before) ≡ Err r
      ↔ Tested RuleStore (NoGrowth rules words)
      (Tested RuleIndex (NoIndex rules index)
      (Tested Output (TooShort (grown_store rules words) (length before) ⊎ TooShort (store_index (grown_store rules words)) (length index_before)) NoOther)) r
  pub kept : (r : Refusal) → add_answer rules index words (length before) (length index_before) ≡ Err r
      → (add_store rules index words before index_before ≡ before) × (add_index rules index words before index_before ≡ index_before)
  pub grown : (size index_size : ℕ) → add_answer rules index words (length before) (length index_before) ≡ Ok (grown_sizes size index_size)
      → (size ≡ length (grown_store rules words)) × (add_store rules index words before index_before ≡ grown_store rules words ++ drop size before)
      × (index_size ≡ length (store_index (grown_store rules words))) × (add_index rules index words before index_before ≡ store_index (grown_store rules words) ++ drop index_size index_before)

-- the store of p: its index, that of the store with a rule added, and what a flip makes of a list
pub record Indexes (rules : List ℕ) (p : Program) : Type 0 where
  pub index : store_index rules ≡ index_of p
  pub grown : (r : Rule ℕ) → ProgramForm (with_rule p r) → store_index (grown_store rules (rule_words r)) ≡ index_of (with_rule p r)
  pub flips : (list : List ℕ) (set atom : ℕ) → flip_list rules list set atom ≡ after_flip p.rules list set atom
