use Rattle.text.proofs.RuleLoop.{RulesLeft}
use Rattle.steps.specs.StepWords.{words3}
use Rattle.rule_steps.proofs.rule_steps.step3.Given as goal

abbrev pub invariant-loop : goal.invariant-loop
invariant-loop l = RulesLeft (words3 l.unfixed l.o.s l.o.u) l.o.n l.count l.words l.initial.out l.at l.out l.next l.from l.counter
