use mathlib.Core.Path.{sym, ap, ◌∙◌}
use mathlib.Core.Bool.{cond}
use Rattle.kinds.specs.declared.refusals.Refusal.TheVariants.{Name, Undeclared}
use Rattle.gathering.proofs.RuleSteps.{rule_why, blank_why, declared_why, other_why}
use Rattle.gathering.proofs.rule_line.rule_refusal.Goals as goal

pub returns-then-refused : goal.returns-then-refused
returns-then-refused c = sym (rule_why c.args.kind c.args.line.now c.shape_of.ensures c.in-Rule.is ∙ ap (λ b. cond b Name Undeclared) c.if-refused.true)

pub returns-else-refused : goal.returns-else-refused
returns-else-refused c = sym (rule_why c.args.kind c.args.line.now c.shape_of.ensures c.in-Rule.is ∙ ap (λ b. cond b Name Undeclared) c.if-refused.false)

pub returns-in-Blank : goal.returns-in-Blank
returns-in-Blank c = blank_why c.args.kind c.args.line.now c.shape_of.ensures c.in-Blank.is

pub returns-in-Declares : goal.returns-in-Declares
returns-in-Declares c = declared_why c.args.kind c.args.line.now c.shape_of.ensures c.in-Declares.is

pub returns-in-Other : goal.returns-in-Other
returns-in-Other c = other_why c.args.kind c.args.line.now c.shape_of.ensures c.in-Other.is
