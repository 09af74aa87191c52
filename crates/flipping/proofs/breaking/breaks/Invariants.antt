use Rattle.stores.specs.RuleStore.{rule_at}
use Rattle.rule_index.specs.Flip.{is_broken}
use Rattle.flipping.proofs.RuleBroken.{Passing}
use Rattle.flipping.proofs.breaking.breaks.Given as goal

abbrev pub invariant-loop-i : goal.invariant-loop-i
invariant-loop-i l = Passing l.words l.set l.body l.not l.end l.odd l.i (is_broken l.set (rule_at l.words))
