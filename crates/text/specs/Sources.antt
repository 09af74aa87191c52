-- Two stores of the form, with the table of the places of names.
use Rattle.std.specs.Prelude.{ℕ, ◌≡◌, List, length}
use Rattle.stores.specs.RuleStore.{StoreOf, decode}
use Rattle.name_store.specs.NameIndex.{Placed}
use Rattle.text.specs.Text.{text_of}
use Rattle.output.specs.Emitted.{InRange}
use Rattle.text.specs.Items.{stored_names}

unfoldable pub source_text : List ℕ → List ℕ → List ℕ → List ℕ
source_text rules names starts = text_of (decode rules) (stored_names names starts)

pub record Sources (rules names starts : List ℕ) : Type 0 where
  pub store : StoreOf rules (decode rules)
  pub count : length starts ≡ (decode rules).atoms
  pub placed : Placed (stored_names names starts) names starts
  pub range : InRange 0 (source_text rules names starts)
