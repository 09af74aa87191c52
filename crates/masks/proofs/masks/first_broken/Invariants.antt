use mathlib.Core.Path.{◌≡◌}
use Prim.Native.Nat.{◌+◌}
use lib.ListN.{drop}
use Rattle.masks.specs.Masks.{first_m}
use Rattle.masks.proofs.masks.first_broken.Given as goal

abbrev pub invariant-loop-i : goal.invariant-loop-i
invariant-loop-i l = first_m l.set l.care l.want ≡ l.i + first_m l.set (drop l.i l.care) (drop l.i l.want)
