use Rattle.flipping.proofs.FlipAnswer.{counts_there, own_inside, sets_fit, join_ready, is_answer}
use native.Mathlib.Omega.{arith}
use Rattle.flipping.proofs.answering.fill_list.Goals as goal

pub own_start-from-requires : goal.own_start-from-requires
own_start-from-requires c = counts_there c.requires.0

pub overflow_add-end : goal.overflow_add-end
overflow_add-end c = omega (arith, own_inside c.requires.0 c.own_start-from.ensures)

pub offset_bounds-index-from : goal.offset_bounds-index-from
offset_bounds-index-from c = omega (arith, own_inside c.requires.0 c.own_start-from.ensures)

pub bounds-index-from : goal.bounds-index-from
bounds-index-from c = omega (arith, own_inside c.requires.0 c.own_start-from.ensures)

pub overflow_cast-end : goal.overflow_cast-end
overflow_cast-end c = omega (arith, c.type_inv.index c.own_start-from.result)

pub overflow_add-end-2 : goal.overflow_add-end-2
overflow_add-end-2 c = omega (arith, own_inside c.requires.0 c.own_start-from.ensures)

pub flipped_set-flipped-requires : goal.flipped_set-flipped-requires
flipped_set-flipped-requires c = sets_fit c.requires.0

pub overflow_add-from : goal.overflow_add-from
overflow_add-from c = omega (arith, own_inside c.requires.0 c.own_start-from.ensures)

pub offset_bounds-index-from-2 : goal.offset_bounds-index-from-2
offset_bounds-index-from-2 c = omega (arith, own_inside c.requires.0 c.own_start-from.ensures)

pub slice_bounds-join-end-2 : goal.slice_bounds-join-end-2
slice_bounds-join-end-2 c = omega (arith, own_inside c.requires.0 c.own_start-from.ensures)

pub join-requires : goal.join-requires
join-requires c = join_ready c.requires.0 c.own_start-from.ensures c.requires.2 c.requires.1

pub returns : goal.returns
returns c = is_answer c.requires.0 c.own_start-from.ensures c.requires.2 c.flipped_set-flipped.ensures c.join.ensures
