use Rattle.gathering.proofs.KeptRules.{over_limit, filled_not, kept, counts_small}
use mathlib.Core.Path.{ap}
use mathlib.Core.Bool.{not}
use Rattle.gathering.proofs.rule_line.keep_rule.Goals as goal

pub returns-then-not-within : goal.returns-then-not-within
returns-then-not-within c = over_limit _ _ _ _ _ _ _ c.within.ensures (ap not c.if-not-within.true)

pub returns-then-is_filled : goal.returns-then-is_filled
returns-then-is_filled c = filled_not _ _ _ _ _ _ _ c.within.ensures (ap not c.if-not-within.false) c.is_filled.ensures c.if-is_filled.true

pub put_counts-requires : goal.put_counts-requires
put_counts-requires c = counts_small c.args.kind c.args.gathered c.args.rule.heads c.args.rule.bodies c.args.rule.nots c.args.rule.end c.args.words.now c.within.ensures (ap not c.if-not-within.false) c.requires.3

pub returns : goal.returns
returns c = kept _ _ _ _ _ _ _ c.within.ensures (ap not c.if-not-within.false) c.is_filled.ensures c.if-is_filled.false c.put_counts.ensures
