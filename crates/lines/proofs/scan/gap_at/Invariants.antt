use Prim.Native.Nat.{◌≤◌, ◌+◌}
use mathlib.Core.Path.{◌≡◌}
use lib.ListN.{drop}
use Rattle.lines.specs.Shapes.{gap}
use Rattle.lines.proofs.scan.gap_at.Given as goal

abbrev pub invariant-loop-i : goal.invariant-loop-i
invariant-loop-i l = (l.at ≤ l.i) × (l.i + gap (drop l.i l.s) ≡ l.at + gap (drop l.at l.s))
