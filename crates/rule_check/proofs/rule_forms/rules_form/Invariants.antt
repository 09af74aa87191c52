use Prim.Native.Nat.{◌-◌}
use Rattle.stores.proofs.RulePlace.{Passing}
use borrow.Author.Rules.{rules}
use Rattle.rule_check.proofs.rule_forms.rules_form.Given as goal

abbrev pub invariant-loop-i : goal.invariant-loop-i
invariant-loop-i l = Passing l.words l.start l.kind l.atoms l.rules l.initial.marks l.marks l.at l.used l.i
