use mathlib.Core.Path.{◌≡◌}
use lib.ListN.{drop}
use lib.Bits.{bit_or}
use Rattle.masks.specs.Masks.{place_mask}
use Rattle.masks.proofs.masks.mask_of.Given as goal

abbrev pub invariant-loop-atom : goal.invariant-loop-atom
invariant-loop-atom l = place_mask l.n l.atoms ≡ bit_or l.m (place_mask l.n (drop l.atom-index l.atoms))
