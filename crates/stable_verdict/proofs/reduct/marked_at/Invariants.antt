use Prim.Native.Nat.{◌+◌}
use mathlib.Core.Path.{◌≡◌}
use lib.ListN.{drop}
use Rattle.stable_verdict.specs.ReductMarks.{marked_at}
use Rattle.stable_verdict.proofs.reduct.marked_at.Given as goal

abbrev pub invariant-loop-place : goal.invariant-loop-place
invariant-loop-place l = marked_at l.before l.marks ≡ l.place + marked_at l.left (drop l.place l.marks)
