use mathlib.Core.Path.{◌≡◌}
use Prim.Native.Nat.{◌-◌, ◌≤◌}
use lib.ListN.{drop}
use Rattle.kinds.specs.Limits.{class_limit}
use Rattle.groups.specs.Plans.{classes_in}
use Rattle.masks.specs.Masks.{spares_m}
use Rattle.descent.proofs.search.spares.Given as goal

abbrev pub invariant-loop-i : goal.invariant-loop-i
invariant-loop-i l = (l.i ≤ class_limit) × (spares_m l.of l.set (classes_in l.plan) ≡ spares_m l.of l.set (drop l.i (classes_in l.plan)))
