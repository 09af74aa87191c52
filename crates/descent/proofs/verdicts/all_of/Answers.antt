use Rattle.masks.proofs.MaskLoops.{shl_pos}
use Rattle.descent.proofs.VerdictsTold.{all_atoms}
use Rattle.descent.proofs.verdicts.all_of.Goals as goal

pub overflow_sub-result : goal.overflow_sub-result
overflow_sub-result c = shl_pos _ c.requires

pub returns : goal.returns
returns c = all_atoms _ c.requires
