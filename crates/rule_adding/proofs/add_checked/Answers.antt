use Rattle.rule_adding.proofs.AddedRule.{grow_ready, index_inside, deliver_ready, index_delivered}
use native.Mathlib.Omega.{arith}
use mathlib.Core.Path.{sym}
use lib.Seq.{length-take-le}
use Rattle.rule_adding.proofs.add_checked.Goals as goal

pub grow_index-size-requires : goal.grow_index-size-requires
grow_index-size-requires c = grow_ready c.requires

pub slice_bounds-grown-end : goal.slice_bounds-grown-end
slice_bounds-grown-end c = index_inside c.requires c.grow_index-size.ensures (omega arith)

pub slice_bounds-deliver-end : goal.slice_bounds-deliver-end
slice_bounds-deliver-end c = sym (length-take-le _ _ (index_inside c.requires c.grow_index-size.ensures (omega arith)))

pub deliver-requires : goal.deliver-requires
deliver-requires c = deliver_ready c.requires c.grow_index-size.ensures (omega arith)

pub returns : goal.returns
returns c = index_delivered c.requires c.grow_index-size.ensures (omega arith) c.deliver.ensures
