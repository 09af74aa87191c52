use native.Mathlib.Omega.{arith}
use Rattle.stable_verdict.proofs.MarkLoops.{marked_found, marked_more, marked_skips, marked_none}
use Rattle.stable_verdict.proofs.reduct.marked_at.Goals as goal
use Rattle.stable_verdict.proofs.reduct.marked_at.Goals.{else-mark, then-mark+else-left-eq0}

pub returns-then-left-eq0 : goal.returns-then-left-eq0
returns-then-left-eq0 c = marked_found _ _ _ _ c.loop-place.invariant c.loop-place-test.true c.if-mark.true c.if-left-eq0.true

pub loop-place-preserved : goal.loop-place-preserved
loop-place-preserved c = elim c.if-mark.branch [ then-mark+else-left-eq0 w ↦ marked_more _ _ _ _ c.loop-place.invariant c.loop-place-test.true w.if-mark.true w.if-left-eq0.false w.left-is | else-mark w ↦ marked_skips _ _ _ _ c.loop-place.invariant c.loop-place-test.true w.if-mark.false w.left-is ]

pub returns : goal.returns
returns c = marked_none _ _ _ _ c.loop-place.invariant (omega arith) (omega arith)
