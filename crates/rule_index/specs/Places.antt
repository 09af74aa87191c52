-- Where an index has its lists, as its counts say, and where rules stand in a store's words.
use Rattle.std.specs.Prelude.{ℕ, zero, suc, ◌+◌, ◌<◌, ◌≡◌, List, get_or, drop}
use Rattle.rules.specs.Rules.{Rule}
use Rattle.stores.specs.RuleStore.{rule_at, rules_from}
use Rattle.stores.specs.StoredRules.{StoredRule}
use Rattle.rule_index.specs.Meanings.{numbered}

-- the place of the count of atom a's list
unfoldable pub list_at : List ℕ → ℕ → ℕ
list_at ws zero = 0
list_at ws (suc a) = suc (list_at ws a) + get_or ws (list_at ws a) 0

-- rule r, of n atoms, stands at a place of the words
pub record PlaceOf (n : ℕ) (ws : List ℕ) (r : Rule ℕ) (at : ℕ) : Type 0 where
  pub stored : StoredRule n (drop at ws)
  pub is : rule_at (drop at ws) ≡ r

-- the places of c rules, one after the other
pub record Placed (n c : ℕ) (ws places : List ℕ) : Type 0 where
  pub place : (i : ℕ) → i < c → PlaceOf n ws (numbered (rules_from c ws) i) (get_or places i 0)
