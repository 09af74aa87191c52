-- What is left of a file with conditions: the planner's atoms that stand in a rule or a condition (document 02, W-203 and W-208).
use Rattle.std.specs.Prelude.{ℕ, List, map}
use Rattle.names.specs.Names.{made_name}
use Rattle.rules.specs.Lists.{filter, flat, from}
use Rattle.rules.specs.Rules.{rename}
use Rattle.restriction.specs.Atoms.{is_member, place_in}
use Rattle.conditions.specs.Conditions.{Cond, name, NOT, AND, OR, Statement, states, when, statement_names}
use Rattle.conditions.specs.Numbers.{inserted}

-- of n declared atoms those that stand in a rule or a condition, in declared order
unfoldable pub spoken : ℕ → List Statement → List ℕ
spoken n ls = filter (is_member (flat statement_names ls)) (from 0 n)

-- a condition with other atoms
unfoldable pub rename_cond : (ℕ → ℕ) → Cond → Cond
rename_cond f (name a) = name (f a)
rename_cond f (NOT t c) = NOT t (rename_cond f c)
rename_cond f (AND l t r) = AND (rename_cond f l) t (rename_cond f r)
rename_cond f (OR l t r) = OR (rename_cond f l) t (rename_cond f r)

abbrev pub rename_statement : (ℕ → ℕ) → Statement → Statement
rename_statement f (states r) = states (rename f r)
rename_statement f (when c a) = when (rename_cond f c) (f a)

-- the statements with each atom by its place
abbrev pub left_statements : List ℕ → List Statement → List Statement
left_statements xs ls = map (rename_statement (place_in xs)) ls

-- the names with those of the k made atoms after the q unfixed ones
unfoldable pub written_names : ℕ → ℕ → List (List ℕ) → List (List ℕ)
written_names q k names = inserted q (map made_name (from 1 k)) names
