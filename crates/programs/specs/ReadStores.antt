-- Two stores as they were read, and what a program prints of them.
use Rattle.std.specs.Prelude.{ℕ, Bool, true, false, List}
use Rattle.stores.specs.Program.{Program}
use Rattle.stores.specs.RuleStore.{StoreOf, decode}
use Rattle.name_store.specs.NameStore.{NamesOf, decode_names}
use Rattle.answers.specs.Listed.{states_of}
use Rattle.answers.specs.Programs.{of_kind, translation_of}

pub record ReadStores (rules names : List ℕ) : Type 0 where
  pub store : StoreOf rules (decode rules)
  pub named : NamesOf names (decode rules).kind (decode rules).atoms (decode_names (decode rules).atoms names)

unfoldable pub on_stores : (Program → List (List ℕ) → List ℕ) → List ℕ → List ℕ → List ℕ
on_stores f rules names = of_kind (decode rules).kind (f (decode rules) (decode_names (decode rules).atoms names))

-- what the lister prints of an accepted preference file, or else the translator
abbrev pub printer : Bool → Program → List (List ℕ) → List ℕ
printer true = states_of
printer false = translation_of
