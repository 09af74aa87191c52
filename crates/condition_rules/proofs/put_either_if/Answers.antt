use mathlib.Core.Path.{ap}
use mathlib.Core.List.{[], ◌∷◌}
use Rattle.rules.specs.Rules.{rule}
use Rattle.stores.specs.RuleStore.{rule_words}
use Rattle.output.proofs.Emitting.{renamed}
use Rattle.condition_rules.proofs.RowRules.{once_same, once_both}
use Rattle.condition_rules.proofs.put_either_if.Goals as goal

pub returns-then-one-other : goal.returns-then-one-other
returns-then-one-other c = renamed c.put_if.ensures (ap (λ h. rule_words (rule h (c.args.body ∷ []) [])) (once_same c.args.one c.args.other c.if-one-other.true))

pub returns : goal.returns
returns c = renamed c.emit.ensures (ap (λ h. rule_words (rule h (c.args.body ∷ []) [])) (once_both c.args.one c.args.other c.if-one-other.false))
