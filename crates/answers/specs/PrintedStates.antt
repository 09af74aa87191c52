-- What is printed are the preferred states (document 01, "Sheets of known states").
use Rattle.std.specs.Prelude.{ℕ, ◌≡◌, ◌⊎◌, List, ◌++◌, length}
use Rattle.kinds.specs.Limits.{budget_limit}
use Rattle.kinds.specs.declared.limits.Kind.TheVariants.{Preference}
use Rattle.rules.specs.Lists.{flat}
use Rattle.stores.specs.Program.{Program, ProgramForm}
use Rattle.walks.specs.Order.{preferred_sets}
use Rattle.walks.specs.Listings.{Whole, CutShort}
use Rattle.answers.specs.Printed.{state_line, total_line, spent_line}
use Rattle.answers.specs.Listed.{whole_listing}

-- no step of the listing is spent: a line for each preferred set, in the order of the walks, then their number
pub record PrintsAll (p : Program) (names : List (List ℕ)) : Type 0 where
  pub whole : Whole p.words p.rules budget_limit (preferred_sets p.words p.rules)
  pub text : whole_listing p names ≡ flat (state_line names) (preferred_sets p.words p.rules) ++ total_line (length (preferred_sets p.words p.rules))

-- the step after the first of them is spent: a line for each of these, then `(spent)`
pub record PrintsSome (p : Program) (names : List (List ℕ)) : Type 0 where
  pub states : List ℕ
  pub cut : CutShort p.words p.rules budget_limit states
  pub text : whole_listing p names ≡ flat (state_line names) states ++ spent_line

abbrev pub PrintsPreferred : Type 0
PrintsPreferred = (p : Program) → ProgramForm p → p.kind ≡ Preference → (names : List (List ℕ)) → PrintsAll p names ⊎ PrintsSome p names
