use Rattle.name_check.proofs.NameChecks.{Checking}
use Rattle.name_check.proofs.index_names.Given as goal

abbrev pub invariant-loop-atom : goal.invariant-loop-atom
invariant-loop-atom l = Checking l.kind l.bytes l.atoms l.initial.starts l.initial.firsts l.initial.links l.starts l.firsts l.links l.at l.atom
