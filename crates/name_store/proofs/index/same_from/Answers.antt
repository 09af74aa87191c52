use mathlib.Core.Path.{refl}
use native.Mathlib.Omega.{arith}
use Rattle.name_store.proofs.ByteLoops.{same_begins, same_passed, same_differs, same_again}
use Rattle.name_store.proofs.index.same_from.Goals as goal

pub loop-i-init : goal.loop-i-init
loop-i-init c = same_begins _ _ _ c.requires.0 c.requires.1

pub bounds-b-i : goal.bounds-b-i
bounds-b-i c = omega (arith, c.loop-i.invariant)

pub returns-then-a-i : goal.returns-then-a-i
returns-then-a-i c = same_differs c.loop-i.invariant c.loop-i-test.true c.if-a-i.true

pub loop-i-preserved : goal.loop-i-preserved
loop-i-preserved c = same_again c.loop-i.invariant c.loop-i-test.true c.if-a-i.false refl

pub returns : goal.returns
returns c = same_passed c.loop-i.invariant c.loop-i-test.false
