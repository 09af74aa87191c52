use Rattle.used_atoms.proofs.Marking.{RulesLeft}
use Rattle.used_atoms.proofs.marks.mark_rules.Given as goal

abbrev pub invariant-loop : goal.invariant-loop
invariant-loop l = RulesLeft l.count l.words l.initial.marks l.marks l.from l.counter
