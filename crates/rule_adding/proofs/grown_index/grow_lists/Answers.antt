use Rattle.rule_adding.proofs.GrowingLists.{begins, ended, same_size, list_inside, front_list, again}
use native.Mathlib.Omega.{arith}
use Rattle.rule_adding.proofs.grown_index.grow_lists.Goals as goal

pub loop-mark-init : goal.loop-mark-init
loop-mark-init c = begins _ _ _ _ c.requires

pub offset_bounds-index-from : goal.offset_bounds-index-from
offset_bounds-index-from c = omega (arith, list_inside c.loop-mark.invariant c.loop-mark-test.true)

pub bounds-index-from : goal.bounds-index-from
bounds-index-from c = omega (arith, list_inside c.loop-mark.invariant c.loop-mark-test.true)

pub overflow_cast-size : goal.overflow_cast-size
overflow_cast-size c = omega (arith, c.type_inv.index c.loop-mark.from)

pub overflow_add-size : goal.overflow_add-size
overflow_add-size c = omega (arith, list_inside c.loop-mark.invariant c.loop-mark-test.true)

pub offset_bounds-index-from-in-loop-mark : goal.offset_bounds-index-from-in-loop-mark
offset_bounds-index-from-in-loop-mark c = omega (arith, list_inside c.loop-mark.invariant c.loop-mark-test.true)

pub slice_bounds-grow_list-count : goal.slice_bounds-grow_list-count
slice_bounds-grow_list-count c = omega (arith, list_inside c.loop-mark.invariant c.loop-mark-test.true)

pub slice_bounds-grow_list-start : goal.slice_bounds-grow_list-start
slice_bounds-grow_list-start c = omega (arith, list_inside c.loop-mark.invariant c.loop-mark-test.true)

pub grow_list-next-requires : goal.grow_list-next-requires
grow_list-next-requires c = front_list c.loop-mark.invariant c.loop-mark-test.true

pub overflow_add-from : goal.overflow_add-from
overflow_add-from c = omega (arith, list_inside c.loop-mark.invariant c.loop-mark-test.true)

pub loop-mark-preserved : goal.loop-mark-preserved
loop-mark-preserved c = again c.loop-mark.invariant c.loop-mark-test.true c.grow_list-next.ensures

pub shape_of-out : goal.shape_of-out
shape_of-out c = same_size c.loop-mark.invariant

pub returns : goal.returns
returns c = ended c.loop-mark.invariant c.loop-mark-test.false
