-- "The preferred states, cut to the planner's atoms, are those of the conditions read directly, each from just one state" (document 02, W-208), from the bytes of a text.
use Rattle.std.specs.Prelude.{ℕ, ◌≡◌, List, [], length}
use Rattle.stores.specs.Program.{Program}
use Rattle.restriction.specs.Atoms.{entries}
use Rattle.conditions.specs.Conditions.{Statement, made_atoms}
use Rattle.conditions.specs.Numbers.{unfixed}
use Rattle.conditions.specs.Programs.{written_program}
use Rattle.conditions.specs.Left.{spoken, left_statements, written_names}
use Rattle.conditions.specs.DirectReading.{DirectReading}
use Rattle.lines.specs.Lines.{lines}
use Rattle.condition_text.specs.Statements.{declared_names, declared_words, statements}

module _ (text : List ℕ) where
  -- the planner's atoms are the declared ones that stand in a rule or a condition
  abbrev pub planner_atoms : List ℕ
  planner_atoms = spoken (length (declared_names (lines text))) (statements (lines text))

  abbrev pub planner_names : List (List ℕ)
  planner_names = entries [] (declared_names (lines text)) planner_atoms

  abbrev pub planner_words : List ℕ
  planner_words = entries 0 (declared_words 0 (lines text)) planner_atoms

  -- what the text states of them
  abbrev pub planner_statements : List Statement
  planner_statements = left_statements planner_atoms (statements (lines text))

  -- program p with its names is what a preference text is accepted as
  pub record ReadDirectly (p : Program) (names : List (List ℕ)) : Type 0 where
    -- "The writer shows these rules in the condition's place": the statements' rules in file order, each made atom behind the varying ones
    pub written : p ≡ written_program p.classes planner_words planner_statements
    pub are_names_lem : names ≡ written_names (unfixed planner_words) (length (made_atoms planner_statements)) planner_names
    pub direct : DirectReading planner_words planner_statements p
