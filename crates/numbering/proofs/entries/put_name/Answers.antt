use Rattle.output.proofs.Emitting.{then}
use Rattle.numbering.proofs.entries.put_name.Goals as goal

pub returns : goal.returns
returns c = then c.push-from.ensures c.emit.ensures
