use Rattle.descent.proofs.Loops.{rule_planned}
use Rattle.descent.proofs.search.is_broken.Goals as goal

pub returns : goal.returns
returns c = rule_planned c.args.plan.now _ c.args.set c.requires
