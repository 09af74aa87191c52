use Rattle.remaining_stores.proofs.Leaving.{put_again}
use Rattle.remaining_stores.proofs.left.put_atoms.Goals as goal

pub loop-a-preserved : goal.loop-a-preserved
loop-a-preserved c = put_again c.loop-a.invariant c.loop-a-test.true c.push-next.ensures
