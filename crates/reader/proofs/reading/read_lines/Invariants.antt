use Prim.Native.Nat.{◌-◌}
use mathlib.Core.Path.{◌≡◌}
use lib.ListN.{length}
use Rattle.reader.proofs.LineByLine.{Reading}
use Rattle.reader.proofs.reading.read_lines.Given as goal

abbrev pub invariant-loop-at : goal.invariant-loop-at
invariant-loop-at l = (length l.words ≡ length l.initial.words) × (length l.bytes ≡ length l.initial.bytes) × (length l.starts ≡ length l.initial.starts) × (length l.firsts ≡ length l.initial.firsts) × (length l.links ≡ length l.initial.links) × (length l.marks ≡ length l.initial.marks) × Reading l.kind l.text l.gathered l.words l.bytes l.starts l.firsts l.links l.marks l.at l.number

abbrev pub decreases-loop-at : goal.decreases-loop-at
decreases-loop-at l = length l.text - l.at
