use Rattle.flipping.proofs.IndexCounts.{counts_begin, count_inside, counts_again, counts_end}
use native.Mathlib.Omega.{arith}
use Rattle.flipping.proofs.own_rules.own_start.Goals as goal

pub loop-i-init : goal.loop-i-init
loop-i-init c = counts_begin c.requires

pub overflow_add-at : goal.overflow_add-at
overflow_add-at c = omega (arith, count_inside c.loop-i.invariant c.loop-i-test.true)

pub offset_bounds-index-at : goal.offset_bounds-index-at
offset_bounds-index-at c = omega (arith, count_inside c.loop-i.invariant c.loop-i-test.true)

pub bounds-index-at : goal.bounds-index-at
bounds-index-at c = count_inside c.loop-i.invariant c.loop-i-test.true

pub overflow_cast-at : goal.overflow_cast-at
overflow_cast-at c = omega (arith, c.type_inv.index c.loop-i.at)

pub overflow_add-at-in-loop-i : goal.overflow_add-at-in-loop-i
overflow_add-at-in-loop-i c = omega (arith, c.type_inv.index c.loop-i.at, count_inside c.loop-i.invariant c.loop-i-test.true)

pub loop-i-preserved : goal.loop-i-preserved
loop-i-preserved c = counts_again c.loop-i.invariant c.loop-i-test.true

pub returns : goal.returns
returns c = counts_end c.loop-i.invariant c.loop-i-test.false
