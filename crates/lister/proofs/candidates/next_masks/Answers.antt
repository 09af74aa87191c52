use mathlib.Core.Path.{◌∙◌}
use Rattle.descent.proofs.VerdictsTold.{past_low, past_late, past_found, told_yes, told_past}
use Rattle.lister.proofs.FromStart.{next_told}
use Rattle.lister.proofs.candidates.next_masks.Goals as goal

pub returns-then-number-budget : goal.returns-then-number-budget
returns-then-number-budget c =
    record {
      value = next_told _ _ _ _ _ _ _ _ (told_yes _ c.search_from-number.ensures.told_by c.requires.budget_le_budget_limit c.if-number-budget.true);
      has_tables_2 = c.search_from-number.ensures.has_tables_2;
    }

pub returns-then-number-lt-FOUND : goal.returns-then-number-lt-FOUND
returns-then-number-lt-FOUND c =
    record {
      value = next_told _ _ _ _ _ _ _ _ (past_low _ _ _ c.if-number-lt-FOUND.true ∙ told_past _ c.search_from-number.ensures.told_by c.requires.budget_le_budget_limit c.if-number-budget.false);
      has_tables_2 = c.search_from-number.ensures.has_tables_2;
    }

pub returns-then-budget-units : goal.returns-then-budget-units
returns-then-budget-units c =
    record {
      value = next_told _ _ _ _ _ _ _ _ (past_late _ _ _ c.if-number-lt-FOUND.false c.if-budget-units.true ∙ told_past _ c.search_from-number.ensures.told_by c.requires.budget_le_budget_limit c.if-number-budget.false);
      has_tables_2 = c.search_from-number.ensures.has_tables_2;
    }

pub returns : goal.returns
returns c =
    record {
      value = next_told _ _ _ _ _ _ _ _ (past_found _ _ _ c.if-number-lt-FOUND.false c.if-budget-units.false ∙ told_past _ c.search_from-number.ensures.told_by c.requires.budget_le_budget_limit c.if-number-budget.false);
      has_tables_2 = c.search_from-number.ensures.has_tables_2;
    }
