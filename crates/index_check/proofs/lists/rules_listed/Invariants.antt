use Rattle.index_check.proofs.Passing.{Passing}
use Rattle.index_check.proofs.lists.rules_listed.Given as goal

abbrev pub invariant-loop-i : goal.invariant-loop-i
invariant-loop-i l = Passing l.words l.count l.index l.initial.next l.ends l.initial.marks l.initial.places l.next l.marks l.places l.from l.i
