use Rattle.lines.proofs.Scanning.{gap_goes_on, gap_ends, gap_out}
use native.Mathlib.Omega.{arith}
use Rattle.lines.proofs.scan.gap_at.Goals as goal

pub returns-then-s-i-ne32 : goal.returns-then-s-i-ne32
returns-then-s-i-ne32 c = omega (arith, gap_ends c.args.s.now c.loop-i.i c.loop-i-test.true c.if-s-i-ne32.true)

pub loop-i-preserved : goal.loop-i-preserved
loop-i-preserved c = omega (arith, gap_goes_on c.args.s.now c.loop-i.i c.loop-i-test.true c.if-s-i-ne32.false)

pub returns : goal.returns
returns c = omega (arith, gap_out c.args.s.now c.loop-i.i c.loop-i-test.false)
