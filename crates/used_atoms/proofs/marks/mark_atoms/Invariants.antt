use Rattle.used_atoms.proofs.Marking.{AtomsLeft}
use Rattle.used_atoms.proofs.marks.mark_atoms.Given as goal

abbrev pub invariant-loop-a : goal.invariant-loop-a
invariant-loop-a l = AtomsLeft l.atoms l.initial.marks l.marks l.a-index
