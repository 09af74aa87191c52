use Rattle.steps.proofs.ClassSteps.{classes_begin, classes_end, begins_inside, first_end, end_inside, class_range, classes_again}
use Rattle.output.proofs.Emitting.{length_kept}
use native.Mathlib.Omega.{arith}
use Rattle.steps.proofs.class_steps.step5.Goals as goal

pub loop-class-init : goal.loop-class-init
loop-class-init c = classes_begin c.requires.1 c.requires.5

pub class_end-end-requires : goal.class_end-end-requires
class_end-end-requires c = begins_inside c.loop-class.invariant

pub step5_class-next-requires : goal.step5_class-next-requires
step5_class-next-requires c = (first_end c.loop-class.invariant c.requires.2 c.loop-class-test.true c.class_end-end.ensures, omega (arith, end_inside c.loop-class.invariant c.requires.2 c.loop-class-test.true c.class_end-end.ensures), c.loop-class.invariant.low, omega arith, c.requires.4, class_range c.loop-class.invariant c.requires.2 c.loop-class-test.true c.class_end-end.ensures)

pub loop-class-preserved : goal.loop-class-preserved
loop-class-preserved c = classes_again c.loop-class.invariant c.requires.2 c.loop-class-test.true c.class_end-end.ensures c.step5_class-next.ensures

pub shape_of-out : goal.shape_of-out
shape_of-out c = length_kept c.loop-class.invariant.so

pub returns : goal.returns
returns c = classes_end c.loop-class.invariant c.loop-class-test.false

pub overflow_cast-end : goal.overflow_cast-end
overflow_cast-end c = omega (arith, end_inside c.loop-class.invariant c.requires.2 c.loop-class-test.true c.class_end-end.ensures)

pub returns-2 : goal.returns-2
returns-2 c = classes_end (classes_again c.loop-class.invariant c.requires.2 c.loop-class-test.true c.class_end-end.ensures c.step5_class-next.ensures) (omega arith)
