use Rattle.condition_line.proofs.ConditionSteps.{over_limit, within_limit}
use mathlib.Core.Path.{ap}
use mathlib.Core.Bool.{not}
use Rattle.condition_line.proofs.condition_line.keep_condition.Goals as goal

pub returns-then-not-within : goal.returns-then-not-within
returns-then-not-within c = over_limit c.args.gathered c.args.connectives c.args.put.rules c.args.put.occurrences c.args.put.end c.within.ensures (ap not c.if-not-within.true)

pub returns : goal.returns
returns c = within_limit c.args.gathered c.args.connectives c.args.put.rules c.args.put.occurrences c.args.put.end c.within.ensures (ap not c.if-not-within.false)
