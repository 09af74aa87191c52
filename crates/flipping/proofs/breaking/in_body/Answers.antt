use mathlib.Core.Bool.{◌&&◌}
use lib.Dec.{leb, ltb}
use Rattle.flipping.proofs.RuleBroken.{bit_of}
use Rattle.flipping.proofs.breaking.in_body.Goals as goal

pub returns : goal.returns
returns c = bit_of (leb c.args.body c.args.i && ltb c.args.i c.args.not)
