use Prim.Native.Nat.{◌-◌}
use native.Mathlib.Omega.{arith}
use Rattle.stores.proofs.Marks.{begins, ended, beyond, twice, again}
use Rattle.list_check.proofs.list_forms.list_form.Goals as goal

pub loop-word-init : goal.loop-word-init
loop-word-init c = begins _ _ _ _ c.requires

pub returns-then-atoms-a : goal.returns-then-atoms-a
returns-then-atoms-a c = beyond c.loop-word.invariant c.loop-word-test.true (omega arith)

pub returns-then-marks-a : goal.returns-then-marks-a
returns-then-marks-a c = twice c.loop-word.invariant c.loop-word-test.true c.if-atoms-a.false c.if-marks-a.true

pub loop-word-preserved : goal.loop-word-preserved
loop-word-preserved c = again c.loop-word.invariant c.loop-word-test.true c.if-atoms-a.false c.if-marks-a.false

pub returns : goal.returns
returns c = ended c.loop-word.invariant c.loop-word-test.false
