use Rattle.names.proofs.MadeNumbers.{Digits}
use Rattle.names.proofs.forms.atom_number.Given as goal

abbrev pub invariant-loop-b : goal.invariant-loop-b
invariant-loop-b l = Digits l.bytes l.b-index l.value
