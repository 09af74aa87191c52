-- The store of a preference program, as the check of rule stores finds it.
use Rattle.std.specs.Prelude.{◌≡◌, List, ℕ}
use Rattle.kinds.specs.declared.limits.Kind.TheVariants.{Preference}
use Rattle.stores.specs.RuleStore.{StoreOf, decode}

pub record PreferenceStore (ws : List ℕ) : Type 0 where
  pub store : StoreOf ws (decode ws)
  pub kind : (decode ws).kind ≡ Preference
