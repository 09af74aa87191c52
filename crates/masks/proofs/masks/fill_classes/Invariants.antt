use Rattle.masks.proofs.ClassFill.{Noting}
use Rattle.masks.proofs.masks.fill_classes.Given as goal

abbrev pub invariant-loop-i : goal.invariant-loop-i
invariant-loop-i l = Noting l.words l.classes l.fixed l.i
