use Rattle.rule_adding.proofs.GrowingLists.{Growing}
use Rattle.rule_adding.proofs.grown_index.grow_lists.Given as goal

abbrev pub invariant-loop-mark : goal.invariant-loop-mark
invariant-loop-mark l = Growing l.index l.marks l.number l.initial.out l.out l.from l.next l.mark-index
