use Rattle.rule_steps.proofs.RuleSteps.{by_rule3, lists_fit}
use Rattle.output.proofs.Emitting.{renamed, range_renamed}
use mathlib.Core.Path.{sym}
use Rattle.rule_steps.proofs.rule_steps.step3_rule.Goals as goal

pub step3_lists-requires : goal.step3_lists-requires
step3_lists-requires c = (lists_fit c.requires.1 c.rule_lists-lists.ensures.heads c.rule_lists-lists.ensures.bodies c.requires.0.n_fits, c.requires.0.s_fits, range_renamed c.requires.2 (by_rule3 _ _ _ _ c.rule_lists-lists.ensures.heads c.rule_lists-lists.ensures.bodies))

pub returns : goal.returns
returns c = renamed c.step3_lists.ensures (sym (by_rule3 _ _ _ _ c.rule_lists-lists.ensures.heads c.rule_lists-lists.ensures.bodies))
