use Rattle.output.proofs.Emitting.{then}
use Rattle.gathering.proofs.rule_line.put_counts.Goals as goal

pub returns : goal.returns
returns c = then c.push-second.ensures (then c.push-third.ensures c.push.ensures)
