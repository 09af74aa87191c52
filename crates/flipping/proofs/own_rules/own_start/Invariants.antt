use Rattle.flipping.proofs.IndexCounts.{Counting}
use Rattle.flipping.proofs.own_rules.own_start.Given as goal

abbrev pub invariant-loop-i : goal.invariant-loop-i
invariant-loop-i l = Counting l.index l.atom l.at l.i
