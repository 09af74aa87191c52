use Rattle.name_store.proofs.ByteLoops.{Hashing}
use Rattle.name_store.proofs.index.hash.Given as goal

abbrev pub invariant-loop-b : goal.invariant-loop-b
invariant-loop-b l = Hashing l.name l.b-index l.h
