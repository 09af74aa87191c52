use Rattle.steps.proofs.ClassSteps.{ClassesLeft}
use Rattle.steps.proofs.class_steps.step5.Given as goal

abbrev pub invariant-loop-class : goal.invariant-loop-class
invariant-loop-class l = ClassesLeft l.classes l.o l.count l.initial.out l.at l.out l.next l.first l.class
