use Rattle.rule_adding.proofs.GrowingList.{kept_range, list_kept, count_range, list_range, number_range, list_grown}
use mathlib.Core.Path.{sym}
use lib.Seq.{length-take-le}
use Rattle.rule_adding.proofs.grown_index.grow_list.Goals as goal

pub push-first-requires : goal.push-first-requires
push-first-requires c = count_range c.requires c.if-mark.true

pub emit-last-requires : goal.emit-last-requires
emit-last-requires c = list_range c.requires c.if-mark.true c.push-first.ensures

pub push-requires : goal.push-requires
push-requires c = number_range c.requires c.if-mark.true c.push-first.ensures c.emit-last.ensures

pub returns-then-mark : goal.returns-then-mark
returns-then-mark c = list_grown c.requires c.if-mark.true c.push-first.ensures c.emit-last.ensures c.push.ensures

pub slice_bounds-emit-end-2 : goal.slice_bounds-emit-end-2
slice_bounds-emit-end-2 c = sym (length-take-le _ _ c.requires.inside)

pub emit-requires : goal.emit-requires
emit-requires c = kept_range c.requires c.if-mark.false

pub returns : goal.returns
returns c = list_kept c.requires c.if-mark.false c.emit.ensures
