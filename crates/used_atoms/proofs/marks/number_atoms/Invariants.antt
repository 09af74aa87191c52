use Rattle.used_atoms.proofs.Numbering.{Numbering}
use Rattle.used_atoms.proofs.marks.number_atoms.Given as goal

abbrev pub invariant-loop-i : goal.invariant-loop-i
invariant-loop-i l = Numbering l.marks l.n l.initial.numbers l.numbers l.left l.i
