use Rattle.canonical_store.proofs.KeptLoop.{Keeping}
use Rattle.canonical_store.proofs.written_rules.emit_rules.Given as goal

abbrev pub invariant-loop-i : goal.invariant-loop-i
invariant-loop-i l = Keeping l.words l.order l.initial.out l.at l.out l.next l.rules l.i
