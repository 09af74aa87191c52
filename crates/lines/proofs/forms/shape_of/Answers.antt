use Rattle.lines.proofs.LineShapes.{same_shape, of_unended, of_blank, of_filled}
use mathlib.Core.Path.{ap}
use mathlib.Core.Bool.{not}
use Rattle.lines.proofs.forms.shape_of.Goals as goal

pub returns-then-not-ended : goal.returns-then-not-ended
returns-then-not-ended c = of_unended c.args.line.now c.is_ended-ended.ensures (ap not c.if-not-ended.true)

pub returns-then-nothing_at : goal.returns-then-nothing_at
returns-then-nothing_at c = of_blank c.args.line.now c.is_ended-ended.ensures (ap not c.if-not-ended.false) c.nothing_at.ensures c.if-nothing_at.true

pub returns : goal.returns
returns c = same_shape c.args.kind c.args.line.now (of_filled c.args.line.now c.is_ended-ended.ensures (ap not c.if-not-ended.false) c.nothing_at.ensures c.if-nothing_at.false) c.opened_shape.result c.opened_shape.ensures
