use Rattle.flipping.proofs.RisingLoop.{Rises}
use Rattle.flipping.proofs.rising.is_rising.Given as goal

abbrev pub invariant-loop-number : goal.invariant-loop-number
invariant-loop-number l = Rises l.list l.rules l.bound l.number-index
