use Rattle.flipping.proofs.JoinLoop.{put_range, put_there, put_nothing}
use Rattle.flipping.proofs.joining.put.Goals as goal

pub push-requires : goal.push-requires
push-requires c = put_range _ c.if-kept.true c.requires.1

pub returns-then-kept : goal.returns-then-kept
returns-then-kept c = put_there _ c.if-kept.true c.push.ensures

pub returns : goal.returns
returns c = put_nothing _ c.if-kept.false
