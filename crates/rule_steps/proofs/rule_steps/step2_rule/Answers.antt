use Rattle.rule_steps.proofs.RuleSteps.{by_rule2, lists_fit}
use Rattle.output.proofs.Emitting.{renamed, range_renamed}
use mathlib.Core.Path.{sym}
use Rattle.rule_steps.proofs.rule_steps.step2_rule.Goals as goal

pub step2_lists-requires : goal.step2_lists-requires
step2_lists-requires c = (lists_fit c.requires.1 c.rule_lists-lists.ensures.heads c.rule_lists-lists.ensures.bodies c.requires.0, c.requires.0, range_renamed c.requires.2 (by_rule2 _ _ _ c.rule_lists-lists.ensures.heads c.rule_lists-lists.ensures.bodies))

pub returns : goal.returns
returns c = renamed c.step2_lists.ensures (sym (by_rule2 _ _ _ c.rule_lists-lists.ensures.heads c.rule_lists-lists.ensures.bodies))
