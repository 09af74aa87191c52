use Rattle.masks.proofs.RulesFill.{Filling}
use Rattle.masks.proofs.masks.fill_rules.Given as goal

abbrev pub invariant-loop-j : goal.invariant-loop-j
invariant-loop-j l = Filling l.words l.rules l.n l.initial.care l.initial.want l.care l.want l.from l.j
