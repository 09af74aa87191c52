use Rattle.condition_rules.proofs.RowRules.{Putting}
use Rattle.condition_rules.proofs.put_rules.Given as goal

abbrev pub invariant-loop-i : goal.invariant-loop-i
invariant-loop-i l = Putting l.table l.first l.initial.words l.at l.words l.end l.rules l.i
