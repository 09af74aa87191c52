use Rattle.name_store.proofs.ByteLoops.{Same}
use Rattle.name_store.proofs.index.same_block.Given as goal

abbrev pub invariant-loop-i : goal.invariant-loop-i
invariant-loop-i l = Same l.a l.b 0 l.i l.same
