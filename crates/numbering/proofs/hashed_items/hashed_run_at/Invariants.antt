use Rattle.numbering.proofs.HashedNames.{Hashing}
use Rattle.numbering.proofs.hashed_items.hashed_run_at.Given as goal

abbrev pub invariant-loop-i : goal.invariant-loop-i
invariant-loop-i l = Hashing l.s l.at l.i l.hash
