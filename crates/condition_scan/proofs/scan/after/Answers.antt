use native.Mathlib.Omega.{arith}
use mathlib.Core.Path.{sym, ap, ◌∙◌}
use Rattle.condition_scan.specs.Scans.{after_of}
use Rattle.condition_scan.proofs.Passing.{opened_deep, opened_shallow}
use Rattle.condition_scan.proofs.scan.after.Goals as goal

pub returns-then-next-gt-BRACKETS : goal.returns-then-next-gt-BRACKETS
returns-then-next-gt-BRACKETS c = opened_deep c.args.seen c.if-next-gt-BRACKETS.true ∙ sym (ap (after_of c.args.seen) c.in-Opening.is)

pub returns-else-next-gt-BRACKETS : goal.returns-else-next-gt-BRACKETS
returns-else-next-gt-BRACKETS c = opened_shallow c.args.seen (omega (arith, c.if-next-gt-BRACKETS.false)) ∙ sym (ap (after_of c.args.seen) c.in-Opening.is)

pub returns-in-Closing : goal.returns-in-Closing
returns-in-Closing c = sym (ap (after_of c.args.seen) c.in-Closing.is)

pub returns-in-Negation : goal.returns-in-Negation
returns-in-Negation c = sym (ap (after_of c.args.seen) c.in-Negation.is)

pub returns-in-Joint : goal.returns-in-Joint
returns-in-Joint c = sym (ap (after_of c.args.seen) c.in-Joint.is)

pub returns-in-Declared : goal.returns-in-Declared
returns-in-Declared c = sym (ap (after_of c.args.seen) c.in-Declared.is)

pub returns-in-Undeclared : goal.returns-in-Undeclared
returns-in-Undeclared c = sym (ap (after_of c.args.seen) c.in-Undeclared.is)
