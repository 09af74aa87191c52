use Rattle.text.proofs.ClassItems.{mins_begin, mins_end, next_class, end_inside, min_range, mins_again}
use native.Mathlib.Omega.{arith}
use Rattle.text.proofs.classes.emit_min_lines.Goals as goal

pub loop-class-init : goal.loop-class-init
loop-class-init c = mins_begin c.requires.0 c.requires.1

pub class_end-end-requires : goal.class_end-end-requires
class_end-end-requires c = next_class c.loop-class.invariant

pub emit_min_line-next-requires : goal.emit_min_line-next-requires
emit_min_line-next-requires c = (end_inside c.loop-class.invariant c.loop-class-test.true c.class_end-end.ensures, min_range c.loop-class.invariant c.loop-class-test.true c.class_end-end.ensures)

pub loop-class-preserved : goal.loop-class-preserved
loop-class-preserved c = mins_again c.loop-class.invariant c.loop-class-test.true c.class_end-end.ensures c.emit_min_line-next.ensures

pub returns : goal.returns
returns c = mins_end c.loop-class.invariant c.loop-class-test.false

pub returns-2 : goal.returns-2
returns-2 c = mins_end (mins_again c.loop-class.invariant c.loop-class-test.true c.class_end-end.ensures c.emit_min_line-next.ensures) (omega arith)
