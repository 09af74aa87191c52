use native.Mathlib.Omega.{arith}
use Rattle.placing.proofs.PlacedParts.{pass_begins, pass_inside, pass_again, pass_ends}
use Rattle.placing.proofs.parts.names_end.Goals as goal

pub loop-init : goal.loop-init
loop-init c = pass_begins _ _ c.requires

pub bounds-bytes-at : goal.bounds-bytes-at
bounds-bytes-at c = omega (arith, pass_inside c.loop.invariant c.loop-test.true)

pub overflow_add-at-in-loop : goal.overflow_add-at-in-loop
overflow_add-at-in-loop c = omega (arith, pass_inside c.loop.invariant c.loop-test.true)

pub loop-preserved : goal.loop-preserved
loop-preserved c = pass_again c.loop.invariant c.loop-test.true

pub returns : goal.returns
returns c = pass_ends c.loop.invariant c.loop-test.false
