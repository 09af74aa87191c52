use Prim.Native.Nat.{◌+◌}
use Rattle.clause_items.proofs.Digits.{Digits}
use Rattle.clause_items.proofs.numbers.digits_at.Given as goal

abbrev pub invariant-loop-n : goal.invariant-loop-n
invariant-loop-n l = Digits l.line l.at (l.at + l.n) l.value
