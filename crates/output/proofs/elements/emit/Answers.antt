use Rattle.std.proofs.Common.{arith}
use Rattle.output.proofs.Emitting.{counted, copied, cut_off}
use Rattle.output.proofs.elements.emit.Goals as goal

pub returns-then-end-out : goal.returns-then-end-out
returns-then-end-out g c = copied c.if-end-out.true c.copy.ensures

pub returns-then-at-out : goal.returns-then-at-out
returns-then-at-out g c = cut_off (omega arith) (omega arith) c.copy-then-at-out.ensures

pub returns-else-at-out : goal.returns-else-at-out
returns-else-at-out g c = counted (omega arith)
