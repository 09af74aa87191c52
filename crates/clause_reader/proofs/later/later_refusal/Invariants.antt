use Prim.Native.Nat.{◌-◌}
use lib.ListN.{length}
use Rattle.clause_reader.proofs.LaterSteps.{Walked}
use Rattle.clause_reader.proofs.later.later_refusal.Given as goal

abbrev pub invariant-loop-place : goal.invariant-loop-place
invariant-loop-place l = Walked l.line l.initial.place l.atoms l.clauses l.initial.state l.place l.state

abbrev pub decreases-loop-place : goal.decreases-loop-place
decreases-loop-place l = length l.line - l.place
