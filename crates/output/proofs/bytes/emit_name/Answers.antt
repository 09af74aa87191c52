use Rattle.output.proofs.Emitting.{copied}
use Rattle.output.proofs.bytes.emit_name.Goals as goal

pub returns-then-end-out : goal.returns-then-end-out
returns-then-end-out c = copied c.if-end-out.true c.copy_name.ensures
