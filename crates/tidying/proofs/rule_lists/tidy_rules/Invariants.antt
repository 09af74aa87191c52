use Rattle.tidying.proofs.TidyLoop.{Tidying}
use Rattle.tidying.proofs.rule_lists.tidy_rules.Given as goal

abbrev pub invariant-loop-i : goal.invariant-loop-i
invariant-loop-i l = Tidying l.initial.words l.count l.words l.from l.i
