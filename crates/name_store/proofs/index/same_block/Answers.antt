use Prim.Native.Nat.{zero-le}
use native.Mathlib.Omega.{arith}
use Rattle.name_store.proofs.ByteLoops.{same_begins, same_passed, same_not, same_again}
use Rattle.name_store.proofs.index.same_block.Goals as goal
use Rattle.name_store.proofs.index.same_block.Goals.{else-a-i, then-a-i}

pub loop-i-init : goal.loop-i-init
loop-i-init c = same_begins _ _ 0 c.requires zero-le

pub bounds-b-i : goal.bounds-b-i
bounds-b-i c = omega (arith, c.loop-i.invariant)

pub loop-i-preserved : goal.loop-i-preserved
loop-i-preserved c = elim c.if-a-i.branch [ then-a-i w ↦ same_not c.loop-i.invariant c.loop-i-test.true w.if-a-i.true w.same-is | else-a-i w ↦ same_again c.loop-i.invariant c.loop-i-test.true w.if-a-i.false w.same-is ]

pub returns : goal.returns
returns c = same_passed c.loop-i.invariant c.loop-i-test.false
