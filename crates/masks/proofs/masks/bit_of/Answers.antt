use native.Mathlib.Omega.{arith}
use Rattle.masks.proofs.MaskLoops.{shifted}
use Rattle.masks.proofs.masks.bit_of.Goals as goal

pub returns : goal.returns
returns c = shifted _ (let h = c.requires in omega arith)
