use Rattle.clause_reader.proofs.LineWalk.{items_read}
use Rattle.clause_reader.proofs.clause_line.read_items.Goals as goal

pub returns : goal.returns
returns c = items_read c.loop-at.invariant.3 c.loop-at-test.false
