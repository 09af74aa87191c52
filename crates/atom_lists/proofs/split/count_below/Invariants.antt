use Rattle.atom_lists.proofs.Counting.{CountingBelow}
use Rattle.atom_lists.proofs.split.count_below.Given as goal

abbrev pub invariant-loop-atom : goal.invariant-loop-atom
invariant-loop-atom l = CountingBelow l.end l.atoms l.atom-index l.count
