use native.Mathlib.Omega.{arith}
use mathlib.Core.Path.{◌∙◌}
use Rattle.descent.proofs.Told.{descend_rises}
use Rattle.descent.proofs.Loops.{better_rises}
use Rattle.descent.proofs.Terms.{searchable, told_asked}
use Rattle.descent.proofs.VerdictsTold.{last_counted, stable_yes, stable_past, stable_told}
use Rattle.descent.proofs.verdicts.stable_search.Goals as goal

pub search-number-requires : goal.search-number-requires
search-number-requires c =
    record {
      searchable = searchable _ _ _ _ _ _ c.set_terms.ensures c.requires.has_tables (omega (arith, c.requires.budget_le_budget_limit));
      atoms_le_walk_atoms = c.requires.atoms_le_walk_atoms;
    }

pub overflow_sub-result : goal.overflow_sub-result
overflow_sub-result c = last_counted _ (told_asked _ _ _ _ _ _ c.set_terms.ensures c.requires.has_tables _ c.search-number.ensures.told_by) c.requires.budget_le_budget_limit (descend_rises _ (better_rises _ _) _ _ _) c.if-number-budget.true

pub returns-then-number-budget : goal.returns-then-number-budget
returns-then-number-budget c = stable_told _ _ _ _ _ _ _ c.all_of-all.ensures _ c.requires.plan_value (stable_yes _ (told_asked _ _ _ _ _ _ c.set_terms.ensures c.requires.has_tables _ c.search-number.ensures.told_by) c.requires.budget_le_budget_limit c.if-number-budget.true)

pub returns : goal.returns
returns c = stable_told _ _ _ _ _ _ _ c.all_of-all.ensures _ c.requires.plan_value (c.past_budget.ensures ∙ stable_past _ (told_asked _ _ _ _ _ _ c.set_terms.ensures c.requires.has_tables _ c.search-number.ensures.told_by) c.requires.budget_le_budget_limit c.if-number-budget.false)
