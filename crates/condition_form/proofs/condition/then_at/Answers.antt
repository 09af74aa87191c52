use native.Mathlib.Omega.{arith}
use Rattle.lines.proofs.ConditionLines.{whole_then}
use Rattle.condition_form.proofs.ThenPlaces.{no_then, then_inside, no_name, name_fits, no_close, close_inside, then_ends}
use Rattle.condition_form.proofs.condition.then_at.Goals as goal

pub opened_at-requires : goal.opened_at-requires
opened_at-requires c = (c.requires, whole_then)

pub returns-in_err-behind : goal.returns-in_err-behind
returns-in_err-behind c = rw c.from_residual.ensures (no_then c.args.line.now c.args.at c.opened_at.ensures c.in_err-behind.was)

pub item_at-requires : goal.item_at-requires
item_at-requires c = then_inside c.args.line.now c.args.at c.opened_at.ensures c.in_ok-behind.was

pub returns-in_err-gap : goal.returns-in_err-gap
returns-in_err-gap c = rw c.from_residual-in_err-gap.ensures (no_name c.args.line.now c.args.at c.opened_at.ensures c.in_ok-behind.was c.item_at.ensures c.in_err-gap.was)

pub overflow_add-start : goal.overflow_add-start
overflow_add-start c = omega (arith, name_fits c.args.line.now c.args.at c.opened_at.ensures c.in_ok-behind.was c.item_at.ensures c.in_ok-gap.was)

pub overflow_add-end : goal.overflow_add-end
overflow_add-end c = omega (arith, name_fits c.args.line.now c.args.at c.opened_at.ensures c.in_ok-behind.was c.item_at.ensures c.in_ok-gap.was)

pub closed_at-requires : goal.closed_at-requires
closed_at-requires c = name_fits c.args.line.now c.args.at c.opened_at.ensures c.in_ok-behind.was c.item_at.ensures c.in_ok-gap.was

pub returns-in_err-closed : goal.returns-in_err-closed
returns-in_err-closed c = rw c.from_residual-in_err-closed.ensures (no_close c.args.line.now c.args.at c.opened_at.ensures c.in_ok-behind.was c.item_at.ensures c.in_ok-gap.was c.closed_at.ensures c.in_err-closed.was)

pub closes_line-requires : goal.closes_line-requires
closes_line-requires c = close_inside c.args.line.now c.args.at c.opened_at.ensures c.in_ok-behind.was c.item_at.ensures c.in_ok-gap.was c.closed_at.ensures c.in_ok-closed.was

pub returns : goal.returns
returns c = rw c.then_some.ensures (then_ends c.args.line.now c.args.at c.opened_at.ensures c.in_ok-behind.was c.item_at.ensures c.in_ok-gap.was c.closed_at.ensures c.in_ok-closed.was c.closes_line.ensures)
