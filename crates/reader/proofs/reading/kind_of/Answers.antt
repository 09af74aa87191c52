use Prim.Native.Nat.{◌-◌}
use native.Mathlib.Omega.{arith}
use Rattle.lines.proofs.LinePlaces.{line_inside}
use Rattle.reader.proofs.LineByLine.{telling, none_tells, blank_tells, line_tells}
use mathlib.Core.Path.{ap}
use mathlib.Core.Bool.{not}
use Rattle.reader.proofs.reading.kind_of.Goals as goal

pub loop-at-init : goal.loop-at-init
loop-at-init c = telling c.args.text.now

pub line_at-requires : goal.line_at-requires
line_at-requires c = c.loop-at.invariant.inside

pub overflow_add-to : goal.overflow_add-to
overflow_add-to c = omega (arith, (line_inside c.args.text.now c.loop-at.at c.loop-at-test.true c.line_at.ensures).0)

pub slice_bounds-line-end : goal.slice_bounds-line-end
slice_bounds-line-end c = (line_inside c.args.text.now c.loop-at.at c.loop-at-test.true c.line_at.ensures).0

pub returns-then-not-blank : goal.returns-then-not-blank
returns-then-not-blank c = line_tells c.loop-at.invariant c.loop-at-test.true c.line_at.ensures c.nothing_at-blank.ensures (ap not c.if-not-blank.true) c.line_kind.ensures

pub loop-at-smaller : goal.loop-at-smaller
loop-at-smaller c = omega (arith, line_inside c.args.text.now c.loop-at.at c.loop-at-test.true c.line_at.ensures)

pub loop-at-preserved : goal.loop-at-preserved
loop-at-preserved c = blank_tells c.loop-at.invariant c.loop-at-test.true c.line_at.ensures c.nothing_at-blank.ensures (ap not c.if-not-blank.false)

pub returns : goal.returns
returns c = none_tells c.loop-at.invariant c.loop-at-test.false
