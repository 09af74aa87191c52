use Rattle.flipping.proofs.RisingLoop.{begins, ended, falls, beyond, again}
use native.Mathlib.Omega.{arith}
use Rattle.flipping.proofs.rising.is_rising.Goals as goal

pub loop-number-init : goal.loop-number-init
loop-number-init c = begins _ _

pub overflow_cast-rule : goal.overflow_cast-rule
overflow_cast-rule c = omega (arith, c.type_inv.list c.loop-number.number-index)

pub returns-then-rule-bound : goal.returns-then-rule-bound
returns-then-rule-bound c = falls c.loop-number.invariant c.loop-number-test.true c.if-rule-bound.true

pub returns-then-rules-rule : goal.returns-then-rules-rule
returns-then-rules-rule c = beyond c.loop-number.invariant c.loop-number-test.true c.if-rule-bound.false c.if-rules-rule.true

pub overflow_add-bound : goal.overflow_add-bound
overflow_add-bound c = omega (arith, c.type_inv.list c.loop-number.number-index)

pub loop-number-preserved : goal.loop-number-preserved
loop-number-preserved c = again c.loop-number.invariant c.loop-number-test.true c.if-rule-bound.false c.if-rules-rule.false

pub returns : goal.returns
returns c = ended c.loop-number.invariant c.loop-number-test.false
