use Rattle.flipping.proofs.FlippedSets.{sum_fits, one_below, taken_out, put_in}
use native.Mathlib.Omega.{arith}
use Rattle.flipping.proofs.breaking.flipped_set.Goals as goal

pub overflow_sub-result : goal.overflow_sub-result
overflow_sub-result c = one_below c.requires c.if-set-atom-eq1.true

pub returns-then-set-atom-eq1 : goal.returns-then-set-atom-eq1
returns-then-set-atom-eq1 c = taken_out c.requires c.if-set-atom-eq1.true

pub overflow_add-result : goal.overflow_add-result
overflow_add-result c = omega (arith, sum_fits c.requires)

pub returns : goal.returns
returns c = put_in c.requires c.if-set-atom-eq1.false
