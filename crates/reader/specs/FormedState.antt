-- What holds of what the lines so far say.
use Rattle.std.specs.Prelude.{◌+◌, ◌≤◌, ◌≡◌, [], length}
use Rattle.kinds.specs.Limits.{atom_limit, rule_limit, occurrence_limit, varying}
use Rattle.kinds.specs.declared.limits.Kind.{Kind}
use Rattle.kinds.specs.declared.limits.Kind.TheVariants.{Plain, Preference}
use Rattle.rules.specs.Lists.{All, sum, from}
use Rattle.rules.specs.Rules.{occurrences}
use Rattle.names.specs.Names.{made_name}
use Rattle.name_store.specs.NameStore.{NamesForm}
use Rattle.stores.specs.Program.{ClassesForm, RuleForm}
use Rattle.lines.specs.declared.stage.Stage.{Stage}
use Rattle.lines.specs.declared.stage.Stage.TheVariants.{Declaring, Fixing, Ruling}
use Rattle.lines.specs.Faults.{SoFar}
use Rattle.faults.specs.Sentences.{Among}

-- what the lines so far leave open
abbrev pub StageForm : Stage → Kind → SoFar → Type 0
StageForm Declaring Plain st = (st.names ≡ []) × (st.program_rules ≡ []) × (st.made ≡ 0)
StageForm Declaring Preference st = All (λ w. w ≤ st.classes) st.words × (st.program_rules ≡ []) × (st.made ≡ 0)
StageForm Fixing Plain st = ⊥
StageForm Fixing Preference st = All (λ w. w ≤ varying) st.words × (st.program_rules ≡ []) × (st.made ≡ 0)
StageForm Ruling kind st = Unit {0}

pub record Formed (st : SoFar) : Type 0 where
  pub atoms_fit : length st.names + st.made ≤ atom_limit st.kind
  pub rules_fit_lem : length st.program_rules ≤ rule_limit st.kind
  pub occurrences_fit : sum occurrences st.program_rules ≤ occurrence_limit st.kind
  pub classes_form : ClassesForm st.kind (length st.names) st.classes st.words
  pub rule_forms : All (RuleForm st.kind (length st.names + st.made)) st.program_rules
  pub names_form : NamesForm st.kind (length st.names) st.names
  pub stage_form : StageForm st.stage st.kind st
  -- only conditions make atoms, and their names are not declared
  pub made_kind : st.kind ≡ Plain → st.made ≡ 0
  pub untaken : All (λ t. Among st.names (made_name t) → ⊥) (from 1 st.made)
