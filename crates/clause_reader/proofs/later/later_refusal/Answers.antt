use Rattle.clause_reader.proofs.LaterSteps.{walk_ended}
use Rattle.clause_reader.proofs.later.later_refusal.Goals as goal

pub returns-then-state : goal.returns-then-state
returns-then-state c = walk_ended c.loop-place.invariant c.loop-place-test.false c.if-state.true

pub returns : goal.returns
returns c = walk_ended c.loop-place.invariant c.loop-place-test.false c.if-state.false
