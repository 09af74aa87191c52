use Rattle.index_check.proofs.Reading.{Reading}
use Rattle.index_check.proofs.lists.rule_listed.Given as goal

abbrev pub invariant-loop-atom : goal.invariant-loop-atom
invariant-loop-atom l = Reading l.atoms l.rule l.index l.initial.next l.ends l.initial.marks l.stamp l.next l.marks l.atom-index
