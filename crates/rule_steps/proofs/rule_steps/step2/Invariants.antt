use Rattle.text.proofs.RuleLoop.{RulesLeft}
use Rattle.steps.specs.StepWords.{words2}
use Rattle.rule_steps.proofs.rule_steps.step2.Given as goal

abbrev pub invariant-loop : goal.invariant-loop
invariant-loop l = RulesLeft (words2 l.minimised l.n) l.n l.count l.words l.initial.out l.at l.out l.next l.from l.counter
