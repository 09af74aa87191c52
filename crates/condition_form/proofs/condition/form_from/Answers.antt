use native.Mathlib.Omega.{arith}
use Rattle.condition_form.proofs.FormWalks.{walking, open_inside, open_onward, walk_opening, close_inside, close_onward, walk_closing, form_closes, taken_inside, taken_onward, walk_taken, refused_inside, refused_onward, walk_refused, walk_stops}
use Rattle.condition_form.proofs.condition.form_from.Goals as goal

pub loop-place-init : goal.loop-place-init
loop-place-init c = walking _ _ _ c.requires

pub overflow_add-depth : goal.overflow_add-depth
overflow_add-depth c = omega (arith, c.loop-place.invariant.few, c.loop-place.invariant.inside, open_inside c.loop-place.invariant c.in_ok-place.ensures c.in-Opening.is, open_onward c.loop-place.invariant c.in_ok-place.ensures c.in-Opening.is)

pub overflow_add-at : goal.overflow_add-at
overflow_add-at c = omega (arith, open_inside c.loop-place.invariant c.in_ok-place.ensures c.in-Opening.is)

pub loop-place-smaller-in-Opening : goal.loop-place-smaller-in-Opening
loop-place-smaller-in-Opening c = omega (arith, open_inside c.loop-place.invariant c.in_ok-place.ensures c.in-Opening.is, open_onward c.loop-place.invariant c.in_ok-place.ensures c.in-Opening.is)

pub loop-place-preserved-in-Opening : goal.loop-place-preserved-in-Opening
loop-place-preserved-in-Opening c = walk_opening c.loop-place.invariant c.in_ok-place.ensures c.in-Opening.is

pub overflow_add-at-in-Closing : goal.overflow_add-at-in-Closing
overflow_add-at-in-Closing c = omega (arith, close_inside c.loop-place.invariant c.in_ok-place.ensures c.in-Closing.is)

pub nothing_at-requires : goal.nothing_at-requires
nothing_at-requires c = close_inside c.loop-place.invariant c.in_ok-place.ensures c.in-Closing.is

pub returns-then-depth-eq0 : goal.returns-then-depth-eq0
returns-then-depth-eq0 c = rw c.then_some.ensures (form_closes c.loop-place.invariant c.in_ok-place.ensures c.in-Closing.is c.if-depth-eq0.true c.nothing_at.ensures)

pub loop-place-smaller-in-Closing : goal.loop-place-smaller-in-Closing
loop-place-smaller-in-Closing c = omega (arith, close_inside c.loop-place.invariant c.in_ok-place.ensures c.in-Closing.is, close_onward c.loop-place.invariant c.in_ok-place.ensures c.in-Closing.is)

pub loop-place-preserved-in-Closing : goal.loop-place-preserved-in-Closing
loop-place-preserved-in-Closing c = walk_closing c.loop-place.invariant c.in_ok-place.ensures c.in-Closing.is (omega (arith, c.if-depth-eq0.false))

pub loop-place-smaller-in-Taken : goal.loop-place-smaller-in-Taken
loop-place-smaller-in-Taken c = omega (arith, taken_inside c.loop-place.invariant c.in_ok-place.ensures c.in-Taken.is, taken_onward c.loop-place.invariant c.in_ok-place.ensures c.in-Taken.is)

pub loop-place-preserved-in-Taken : goal.loop-place-preserved-in-Taken
loop-place-preserved-in-Taken c = walk_taken c.loop-place.invariant c.in_ok-place.ensures c.in-Taken.is

pub loop-place-smaller : goal.loop-place-smaller
loop-place-smaller c = omega (arith, refused_inside c.loop-place.invariant c.in_ok-place.ensures c.in-Refused.is, refused_onward c.loop-place.invariant c.in_ok-place.ensures c.in-Refused.is)

pub loop-place-preserved : goal.loop-place-preserved
loop-place-preserved c = walk_refused c.loop-place.invariant c.in_ok-place.ensures c.in-Refused.is

pub returns-in_err-place : goal.returns-in_err-place
returns-in_err-place c = rw c.from_residual.ensures (walk_stops c.loop-place.invariant c.in_err-place.ensures)
