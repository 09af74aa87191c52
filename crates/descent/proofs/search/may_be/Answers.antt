use Rattle.descent.proofs.Loops.{may_in_lem, may_out_lem}
use Rattle.descent.proofs.search.may_be.Goals as goal

pub returns-then-value : goal.returns-then-value
returns-then-value c = may_in_lem _ _ _ c.requires.rest_lt_walk_atoms c.requires.plan_value _ c.if-value.true

pub returns : goal.returns
returns c = may_out_lem _ _ _ c.requires.rest_lt_walk_atoms _ c.if-value.false
