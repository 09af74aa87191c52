use Prim.Native.Nat.{◌-◌}
use lib.ListN.{length}
use Rattle.numbering.proofs.Entering.{Looking}
use Rattle.name_store.specs.IndexedNames.{names_of}
use Rattle.numbering.proofs.entries.any_known.Given as goal

abbrev pub invariant-loop-gap : goal.invariant-loop-gap
invariant-loop-gap l = Looking (names_of l.names) l.line l.from l.i

abbrev pub decreases-loop-gap : goal.decreases-loop-gap
decreases-loop-gap l = length l.line - l.i
