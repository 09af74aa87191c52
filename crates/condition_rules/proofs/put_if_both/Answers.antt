use mathlib.Core.Path.{ap}
use mathlib.Core.List.{[], ◌∷◌}
use Rattle.rules.specs.Rules.{rule}
use Rattle.stores.specs.RuleStore.{rule_words}
use Rattle.output.proofs.Emitting.{renamed}
use Rattle.condition_rules.proofs.RowRules.{once_same, once_both}
use Rattle.condition_rules.proofs.put_if_both.Goals as goal

pub returns-then-left-right : goal.returns-then-left-right
returns-then-left-right c = renamed c.put_if.ensures (ap (λ b. rule_words (rule (c.args.head ∷ []) b [])) (once_same c.args.left c.args.right c.if-left-right.true))

pub returns : goal.returns
returns c = renamed c.emit.ensures (ap (λ b. rule_words (rule (c.args.head ∷ []) b [])) (once_both c.args.left c.args.right c.if-left-right.false))
