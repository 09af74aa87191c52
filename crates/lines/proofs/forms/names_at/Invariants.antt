use Prim.Native.Nat.{◌-◌}
use lib.ListN.{length}
use Rattle.lines.proofs.NameLists.{Naming}
use Rattle.lines.proofs.forms.names_at.Given as goal

abbrev pub invariant-loop-gap : goal.invariant-loop-gap
invariant-loop-gap l = Naming l.kind l.s l.from l.end l.count l.refused

abbrev pub decreases-loop-gap : goal.decreases-loop-gap
decreases-loop-gap l = length l.s - l.end
