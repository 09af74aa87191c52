use Rattle.atom_lists.proofs.Counting.{below_begins, below_more, below_same, below_ends}
use native.Mathlib.Omega.{arith}
use Rattle.atom_lists.proofs.split.count_below.Goals as goal
use Rattle.atom_lists.proofs.split.count_below.Goals.{else-atom-end, then-atom-end}

pub loop-atom-init : goal.loop-atom-init
loop-atom-init c = below_begins _ _

pub loop-atom-preserved : goal.loop-atom-preserved
loop-atom-preserved c = elim c.if-atom-end.branch [ then-atom-end w ↦ below_more c.loop-atom.invariant c.loop-atom-test.true w.if-atom-end.true (omega arith) | else-atom-end w ↦ below_same c.loop-atom.invariant c.loop-atom-test.true w.if-atom-end.false (omega arith) ]

pub returns : goal.returns
returns c = below_ends c.loop-atom.invariant c.loop-atom-test.false
