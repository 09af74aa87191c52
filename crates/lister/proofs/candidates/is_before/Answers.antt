use Rattle.lister.proofs.FromStart.{out_before}
use Rattle.lister.proofs.candidates.is_before.Goals as goal

pub returns : goal.returns
returns c = out_before _ _ _ _ c.requires.rest_lt_walk_atoms c.if-value.false
