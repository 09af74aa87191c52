use Rattle.descent.proofs.VerdictsTold.{past_low, past_late, past_found}
use Rattle.descent.proofs.verdicts.past_budget.Goals as goal

pub returns-then-number-lt-FOUND : goal.returns-then-number-lt-FOUND
returns-then-number-lt-FOUND c = past_low _ _ _ c.if-number-lt-FOUND.true

pub returns-then-budget-units : goal.returns-then-budget-units
returns-then-budget-units c = past_late _ _ _ c.if-number-lt-FOUND.false c.if-budget-units.true

pub returns : goal.returns
returns c = past_found _ _ _ c.if-number-lt-FOUND.false c.if-budget-units.false
