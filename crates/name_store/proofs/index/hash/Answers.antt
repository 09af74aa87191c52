use Rattle.name_store.proofs.ByteLoops.{hash_begins, hash_passed, hash_again}
use Rattle.name_store.proofs.index.hash.Goals as goal

pub loop-b-init : goal.loop-b-init
loop-b-init c = hash_begins _

pub hash_step-h-requires : goal.hash_step-h-requires
hash_step-h-requires c = c.loop-b.invariant.small

pub loop-b-preserved : goal.loop-b-preserved
loop-b-preserved c = hash_again c.loop-b.invariant c.loop-b-test.true c.hash_step-h.ensures

pub returns : goal.returns
returns c = hash_passed c.loop-b.invariant c.loop-b-test.false
