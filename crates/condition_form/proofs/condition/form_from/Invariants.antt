use Prim.Native.Nat.{◌-◌}
use lib.ListN.{length}
use Rattle.condition_form.proofs.FormWalks.{Walking}
use Rattle.condition_form.proofs.condition.form_from.Given as goal

abbrev pub invariant-loop-place : goal.invariant-loop-place
invariant-loop-place l = Walking l.kind l.line l.from l.at l.last l.depth l.refused

abbrev pub decreases-loop-place : goal.decreases-loop-place
decreases-loop-place l = length l.line - l.at
