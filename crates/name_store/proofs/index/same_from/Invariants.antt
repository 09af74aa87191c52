use mathlib.Core.Bool.{true}
use Rattle.name_store.proofs.ByteLoops.{Same}
use Rattle.name_store.proofs.index.same_from.Given as goal

abbrev pub invariant-loop-i : goal.invariant-loop-i
invariant-loop-i l = Same l.a l.b l.from l.i true
