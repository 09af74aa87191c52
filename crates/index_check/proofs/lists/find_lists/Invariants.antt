use Rattle.index_check.proofs.Finding.{Finding}
use Rattle.index_check.proofs.lists.find_lists.Given as goal

abbrev pub invariant-loop-a : goal.invariant-loop-a
invariant-loop-a l = Finding l.index l.initial.next l.initial.ends l.next l.ends l.at l.a
