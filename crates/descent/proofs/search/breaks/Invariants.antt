use mathlib.Core.Path.{◌≡◌}
use Prim.Native.Nat.{◌-◌, ◌%◌}
use Rattle.groups.specs.Groups.{broken_from}
use Rattle.groups.specs.Plans.{care_in, want_in}
use Rattle.descent.proofs.search.breaks.Given as goal

abbrev pub invariant-loop-i : goal.invariant-loop-i
invariant-loop-i l = (l.i % 2 ≡ 0) × (broken_from (care_in l.plan) (want_in l.plan) l.set l.from l.to ≡ broken_from (care_in l.plan) (want_in l.plan) l.set l.i l.to)

abbrev pub decreases-loop-i : goal.decreases-loop-i
decreases-loop-i l = l.to - l.i
