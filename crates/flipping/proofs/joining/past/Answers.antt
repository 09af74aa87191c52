use Rattle.flipping.proofs.RisingTails.{led_inside, goes_on, stays}
use native.Mathlib.Omega.{arith}
use Rattle.flipping.proofs.joining.past.Goals as goal

pub overflow_add-result : goal.overflow_add-result
overflow_add-result c = omega (arith, led_inside c.args.list.now c.args.i c.args.rule c.is_at.ensures c.if-is_at.true)

pub returns-then-is_at : goal.returns-then-is_at
returns-then-is_at c = goes_on c.args.list.now c.args.i c.args.rule c.is_at.ensures c.if-is_at.true

pub returns : goal.returns
returns c = stays c.args.list.now c.args.i c.args.rule c.is_at.ensures c.if-is_at.false
