use native.Mathlib.Omega.{arith}
use Rattle.lines.proofs.NameLists.{begins_naming, names_closed, names_unclosed, name_inside, name_long, name_wrong, name_taken, name_refused}
use Rattle.lines.proofs.forms.names_at.Goals as goal
use Rattle.lines.proofs.forms.names_at.Goals.{in-Taken, in-Refused}

pub loop-gap-init : goal.loop-gap-init
loop-gap-init c = begins_naming _ _ _ c.requires

pub returns-in_err-end : goal.returns-in_err-end
returns-in_err-end c = rw c.from_residual.ensures (names_unclosed c.loop-gap.invariant c.item_at.ensures c.in_default.is c.closed_at.ensures c.in_err-end.was)

pub returns : goal.returns
returns c = names_closed c.loop-gap.invariant c.item_at.ensures c.in_default.is c.closed_at.ensures c.in_ok-end.was

pub overflow_add-start : goal.overflow_add-start
overflow_add-start c = omega (arith, name_inside c.loop-gap.invariant c.item_at.ensures c.in-Some.is)

pub overflow_add-to : goal.overflow_add-to
overflow_add-to c = omega (arith, name_inside c.loop-gap.invariant c.item_at.ensures c.in-Some.is)

pub slice_bounds-name_fit-end : goal.slice_bounds-name_fit-end
slice_bounds-name_fit-end c = omega (arith, name_inside c.loop-gap.invariant c.item_at.ensures c.in-Some.is)

pub returns-in-Wrong : goal.returns-in-Wrong
returns-in-Wrong c = name_wrong c.loop-gap.invariant c.item_at.ensures c.in-Some.is c.name_fit.ensures c.in-Wrong.is

pub overflow_add-count : goal.overflow_add-count
overflow_add-count c = omega (arith, name_inside c.loop-gap.invariant c.item_at.ensures c.in-Some.is, c.loop-gap.invariant.few)

pub loop-gap-smaller : goal.loop-gap-smaller
loop-gap-smaller c = omega (arith, name_inside c.loop-gap.invariant c.item_at.ensures c.in-Some.is, name_long c.loop-gap.invariant c.item_at.ensures c.in-Some.is)

pub loop-gap-preserved : goal.loop-gap-preserved
loop-gap-preserved c = elim c.match-name_fit.branch [ in-Taken w ↦ name_taken c.loop-gap.invariant c.item_at.ensures c.in-Some.is c.name_fit.ensures w.in-Taken.is w.refused-is | in-Refused w ↦ name_refused c.loop-gap.invariant c.item_at.ensures c.in-Some.is c.name_fit.ensures w.in-Refused.is w.refused-is ]
