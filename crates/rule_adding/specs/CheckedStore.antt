-- What is known of the store, the index and the rule once they are checked.
use Rattle.std.specs.Prelude.{◌≡◌, List, ℕ, T}
use Rattle.kinds.specs.declared.limits.Kind.{Kind}
use Rattle.stores.specs.RuleStore.{StoreOf, decode, is_store}
use Rattle.stores.specs.StoredRules.{HeaderOf}
use Rattle.stores.specs.declared.rule_store.Header.{Header}
use Rattle.rule_index.specs.Growth.{grown_store}
use Rattle.rule_index.specs.Answers.{store_index}

pub record CheckedStore (ws : List ℕ) (kind : Kind) (h : Header) : Type 0 where
  pub store : StoreOf ws (decode ws)
  pub kind_is : (decode ws).kind ≡ kind
  pub header : HeaderOf (decode ws) ws h

-- the store with the rule is of the form, and the index is the store's
pub record Addable (ws index rule : List ℕ) (h : Header) : Type 0 where
  pub store : StoreOf ws (decode ws)
  pub header : HeaderOf (decode ws) ws h
  pub rule_fits : T (is_store (grown_store ws rule))
  pub index_is : index ≡ store_index ws
