use Rattle.atom_lists.proofs.Splitting.{Splitting}
use Rattle.atom_lists.proofs.split.emit_split.Given as goal

abbrev pub invariant-loop-atom : goal.invariant-loop-atom
invariant-loop-atom l = Splitting l.split l.atoms l.initial.out l.at l.behind l.atom-index l.out l.low l.high
