use native.Mathlib.Omega.{arith}
use Rattle.condition_scan.proofs.Passing.{scanning, to_inside, to_onward, countable, misplaced, scan_again, part_missing, scan_ends}
use mathlib.Core.Path.{ap}
use mathlib.Core.Bool.{not}
use Rattle.condition_scan.proofs.scan.scan_condition.Goals as goal

pub loop-step-init : goal.loop-step-init
loop-step-init c = scanning _ _ c.requires

pub returns-then-seen : goal.returns-then-seen
returns-then-seen c = part_missing c.loop-step.invariant c.in_default.ensures c.if-seen.true

pub returns : goal.returns
returns c = scan_ends c.loop-step.invariant c.in_default.ensures c.if-seen.false

pub returns-then-not-fits : goal.returns-then-not-fits
returns-then-not-fits c = misplaced c.loop-step.invariant c.in-Some.ensures c.fits.ensures (ap not c.if-not-fits.true)

pub after-seen-requires : goal.after-seen-requires
after-seen-requires c = countable c.loop-step.invariant c.in-Some.ensures (omega arith)

pub loop-step-smaller : goal.loop-step-smaller
loop-step-smaller c = omega (arith, to_inside c.loop-step.invariant c.in-Some.ensures, to_onward c.loop-step.invariant c.in-Some.ensures)

pub loop-step-preserved : goal.loop-step-preserved
loop-step-preserved c = scan_again c.loop-step.invariant c.in-Some.ensures c.fits.ensures (ap not c.if-not-fits.false) c.after-seen.ensures
