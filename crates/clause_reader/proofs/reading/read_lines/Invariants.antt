use Prim.Native.Nat.{◌-◌}
use mathlib.Core.Path.{◌≡◌}
use lib.ListN.{length}
use Rattle.clause_reader.proofs.TextWalk.{InText}
use Rattle.clause_reader.proofs.reading.read_lines.Given as goal

abbrev pub invariant-loop-at : goal.invariant-loop-at
invariant-loop-at l = (length l.words ≡ length l.initial.words) × (length l.bodies ≡ length l.initial.bodies) × (length l.marks ≡ length l.initial.marks) × InText l.text l.reading l.words l.bodies l.marks l.at l.number

abbrev pub decreases-loop-at : goal.decreases-loop-at
decreases-loop-at l = length l.text - l.at
