-- What the index, its growth and a flip mean (document 02, W-209).
use Rattle.std.specs.Prelude.{ℕ, suc, ◌^◌, ◌<◌, ◌≡◌, ◌↔◌, ◌⊎◌, ◌≢◌, List, [], length, get_or}
use Rattle.rules.specs.Lists.{All, Any}
use Rattle.rules.specs.Rules.{Rule, rule, Holds}
use Rattle.rules.specs.Sets.{has, In}
use Rattle.stores.specs.Program.{Program}
use Rattle.stores.specs.RuleStore.{StoreOf, rule_words}
use Rattle.rule_index.specs.Index.{rules_with, index_of}
use Rattle.rule_index.specs.Flip.{broken_rules, flipped, after_flip}
use Rattle.rule_index.specs.Growth.{with_rule, grown_store, grown_index}

abbrev pub Member : ℕ → List ℕ → Type 0
Member i xs = Any (λ x. x ≡ i) xs

-- each number is greater than the one before
abbrev pub Rising : List ℕ → Type 0
Rising xs = (j : ℕ) → suc j < length xs → get_or xs j 0 < get_or xs (suc j) 0

-- the rule with a number
abbrev pub numbered : List (Rule ℕ) → ℕ → Rule ℕ
numbered rs i = get_or rs i (rule [] [] [])

-- the atom is in one of the rule's three lists
abbrev pub Stands : ℕ → Rule ℕ → Type 0
Stands a r = Member a r.head ⊎ (Member a r.body ⊎ Member a r.nots)

-- "the rising list of rules that hold it"
pub record HasRules (rs : List (Rule ℕ)) (a : ℕ) (list : List ℕ) : Type 0 where
  pub rising : Rising list
  pub members : (i : ℕ) → Member i list ↔ ((i < length rs) × Stands a (numbered rs i))

-- the rules that a set breaks
pub record Breaks (rs : List (Rule ℕ)) (x : ℕ) (list : List ℕ) : Type 0 where
  pub rising : Rising list
  pub members : (i : ℕ) → Member i list ↔ ((i < length rs) × (Holds (has x) (numbered rs i) → ⊥))

-- atom a, and no other, is in one of the two sets alone
pub record Flipped (a x y : ℕ) : Type 0 where
  pub taken : In (has y) a ↔ (In (has x) a → ⊥)
  pub kept : (b : ℕ) → b ≢ a → In (has y) b ↔ In (has x) b

-- "its rules that don't hold the atom, joined with those of the atom's rules that the flipped set breaks, in rising order"
pub record Answers (rs : List (Rule ℕ)) (list : List ℕ) (a y : ℕ) (answer : List ℕ) : Type 0 where
  pub rising : Rising answer
  pub members : (i : ℕ) → Member i answer
      ↔ ((Member i list × (Stands a (numbered rs i) → ⊥)) ⊎ ((i < length rs) × Stands a (numbered rs i) × (Holds (has y) (numbered rs i) → ⊥)))

pub record Flips : Type 0 where
  pub lists : (rs : List (Rule ℕ)) (a : ℕ) → HasRules rs a (rules_with a rs)
  pub broken : (rs : List (Rule ℕ)) (x : ℕ) → Breaks rs x (broken_rules rs x)
  -- a set of n atoms stays one
  pub sets : (n x a : ℕ) → x < 2 ^ n → a < n → Flipped a x (flipped x a) × (flipped x a < 2 ^ n)
  -- for any list of rule numbers
  pub answers : (rs : List (Rule ℕ)) (list : List ℕ) (x a : ℕ) → All (λ i. i < length rs) list → Answers rs list a (flipped x a) (after_flip rs list x a)
  -- "from a set's broken rules it gives the flipped set's"
  pub from_broken : (rs : List (Rule ℕ)) (x a : ℕ) → after_flip rs (broken_rules rs x) x a ≡ broken_rules rs (flipped x a)

-- the store and the index with a rule added are those of the program with the rule at its end
pub record Grows (ws : List ℕ) (p : Program) (r : Rule ℕ) : Type 0 where
  pub store : StoreOf (grown_store ws (rule_words r)) (with_rule p r)
  pub index : grown_index r (length p.rules) 0 p.atoms (index_of p) ≡ index_of (with_rule p r)
