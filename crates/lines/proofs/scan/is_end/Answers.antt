use Rattle.lines.proofs.Scanning.{mark_ends, others_end}
use Rattle.lines.proofs.scan.is_end.Goals as goal

pub returns-then-b-eq59 : goal.returns-then-b-eq59
returns-then-b-eq59 c = mark_ends _ c.if-b-eq59.true

pub returns-else-b-eq59 : goal.returns-else-b-eq59
returns-else-b-eq59 c = others_end _ c.if-b-eq59.false
