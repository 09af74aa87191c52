use lib.ListN.{replicate-append-replicate}
use Rattle.output.proofs.Emitting.{then, renamed}
use Rattle.output.proofs.elements.emit_copies.Goals as goal

pub loop-preserved : goal.loop-preserved
loop-preserved g c = renamed (then c.loop.invariant c.push-next.ensures) (replicate-append-replicate c.loop.counter 1 c.args.x)
