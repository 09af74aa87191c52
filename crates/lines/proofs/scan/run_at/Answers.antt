use mathlib.Core.Path.{sym, ◌∙◌}
use Rattle.lines.proofs.Scanning.{run_goes_on, run_ends, run_out}
use native.Mathlib.Omega.{arith}
use Rattle.lines.proofs.scan.run_at.Goals as goal

pub returns-then-is_delimiter : goal.returns-then-is_delimiter
returns-then-is_delimiter c = omega (arith, run_ends c.args.s.now c.loop-i.i c.loop-i-test.true (sym c.is_delimiter.ensures ∙ c.if-is_delimiter.true))

pub loop-i-preserved : goal.loop-i-preserved
loop-i-preserved c = omega (arith, run_goes_on c.args.s.now c.loop-i.i c.loop-i-test.true (sym c.is_delimiter.ensures ∙ c.if-is_delimiter.false))

pub returns : goal.returns
returns c = omega (arith, run_out c.args.s.now c.loop-i.i c.loop-i-test.false)
