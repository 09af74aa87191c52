use Rattle.flipping.proofs.FlippedSets.{no_set, a_set}
use Rattle.flipping.proofs.is_inside.Goals as goal

pub returns-then-n-set : goal.returns-then-n-set
returns-then-n-set c = no_set c.args.set c.args.atom c.requires c.if-n-set.true

pub returns : goal.returns
returns c = a_set c.args.set c.args.atom c.requires c.if-n-set.false
