use native.Mathlib.Omega.{arith}
use Rattle.lines.proofs.LineBlocks.{block_passed, line_fits}
use Rattle.lines.proofs.scan.line_at.Goals as goal

pub overflow_add-result : goal.overflow_add-result
overflow_add-result c = omega (arith, c.line_by_bytes.ensures, line_fits c.args.s.now c.loop-i.i)

pub returns-then-has_line_end : goal.returns-then-has_line_end
returns-then-has_line_end c = omega (arith, c.line_by_bytes.ensures, c.loop-i.invariant)

pub loop-i-preserved : goal.loop-i-preserved
loop-i-preserved c = omega (arith, block_passed c.args.s.now c.loop-i.i (omega arith) c.has_line_end.ensures c.if-has_line_end.false)

pub overflow_add-result-2 : goal.overflow_add-result-2
overflow_add-result-2 c = omega (arith, c.line_by_bytes-2.ensures, line_fits c.args.s.now c.loop-i.i)

pub returns : goal.returns
returns c = omega (arith, c.line_by_bytes-2.ensures, c.loop-i.invariant)
