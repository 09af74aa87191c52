-- The written program as a store's program, and the form of what the planner typed (document 02, W-208).
use Rattle.std.specs.Prelude.{ℕ, ◌+◌, ◌<◌, List, length}
use Rattle.kinds.specs.declared.limits.Kind.TheVariants.{Preference}
use Rattle.rules.specs.Lists.{All}
use Rattle.stores.specs.Program.{Program, ClassesForm, RuleForm}
use Rattle.conditions.specs.Conditions.{Statement, states, when, statement_names, made_atoms, Numbered}
use Rattle.conditions.specs.Numbers.{written_words, written_rules}

-- a statement over n declared atoms: a rule of the form; a condition that names declared atoms
abbrev pub StatementForm : ℕ → Statement → Type 0
StatementForm n (states r) = RuleForm Preference n r
StatementForm n (when c a) = All (λ b. b < n) (statement_names (when c a))

-- what the planner typed: class words of the form, statements over the declared atoms, connectives numbered from 1 in file order
pub record Typed (classes : ℕ) (ws : List ℕ) (ls : List Statement) : Type 0 where
  pub classes_form : ClassesForm Preference (length ws) classes ws
  pub statement_forms : All (StatementForm (length ws)) ls
  pub numbered : Numbered ls

-- the program that the store holds: the file's atoms and one more a connective
unfoldable pub written_program : ℕ → List ℕ → List Statement → Program
written_program classes ws ls = record {
  kind = Preference;
  atoms = length ws + length (made_atoms ls);
  classes = classes;
  words = written_words ws ls;
  rules = written_rules ws ls;
}
