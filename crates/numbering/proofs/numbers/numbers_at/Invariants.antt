use Prim.Native.Nat.{◌-◌}
use mathlib.Core.Path.{◌≡◌}
use lib.ListN.{length}
use Rattle.numbering.proofs.NameNumbers.{Numbering}
use Rattle.name_store.specs.IndexedNames.{names_of}
use Rattle.numbering.proofs.numbers.numbers_at.Given as goal

abbrev pub invariant-loop-gap : goal.invariant-loop-gap
invariant-loop-gap l = (length l.marks ≡ length l.initial.marks) × (length l.out ≡ length l.initial.out) × Numbering (names_of l.names) l.line l.from l.stamp l.initial.out l.at l.i l.end l.twice l.marks l.out

abbrev pub decreases-loop-gap : goal.decreases-loop-gap
decreases-loop-gap l = length l.line - l.i
