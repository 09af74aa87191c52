use mathlib.Core.Path.{sym, ◌∙◌}
use lib.Seq.{length-take-le}
use Rattle.canonical_store.proofs.SortedStores.{header, copy_inside, copy_store, copy_count, count_inside, count_length, of_copy}
use native.Mathlib.Omega.{arith}
use Rattle.canonical_store.proofs.emit_canonical.Goals as goal

pub bounds-rules-3 : goal.bounds-rules-3
bounds-rules-3 c = omega (arith, (header c.requires.0).inside)

pub overflow_cast-count : goal.overflow_cast-count
overflow_cast-count c = omega (arith, count_inside c.requires.0 c.requires.1 c.emit-size.ensures c.args.order.now c.requires.3)

pub slice_bounds-emit_sorted-end : goal.slice_bounds-emit_sorted-end
slice_bounds-emit_sorted-end c = copy_inside c.requires.0 c.requires.1 c.emit-size.ensures

pub slice_bounds-emit_sorted-end-2 : goal.slice_bounds-emit_sorted-end-2
slice_bounds-emit_sorted-end-2 c = sym (length-take-le _ _ (copy_inside c.requires.0 c.requires.1 c.emit-size.ensures))

pub slice_bounds-emit_sorted-end-3 : goal.slice_bounds-emit_sorted-end-3
slice_bounds-emit_sorted-end-3 c = count_inside c.requires.0 c.requires.1 c.emit-size.ensures c.args.order.now c.requires.3

pub slice_bounds-emit_sorted-end-4 : goal.slice_bounds-emit_sorted-end-4
slice_bounds-emit_sorted-end-4 c = sym (count_length c.requires.0 c.requires.1 c.emit-size.ensures c.args.order.now c.requires.3)

pub slice_bounds-emit_sorted-end-5 : goal.slice_bounds-emit_sorted-end-5
slice_bounds-emit_sorted-end-5 c = count_inside c.requires.0 c.requires.1 c.emit-size.ensures c.args.spare.now c.requires.4

pub slice_bounds-emit_sorted-end-6 : goal.slice_bounds-emit_sorted-end-6
slice_bounds-emit_sorted-end-6 c = sym (count_length c.requires.0 c.requires.1 c.emit-size.ensures c.args.spare.now c.requires.4)

pub emit_sorted-requires : goal.emit_sorted-requires
emit_sorted-requires c = (copy_store c.requires.0 c.requires.1 c.emit-size.ensures, c.requires.2, count_length c.requires.0 c.requires.1 c.emit-size.ensures c.args.order.now c.requires.3 ∙ copy_count c.requires.0 c.requires.1 c.emit-size.ensures, count_length c.requires.0 c.requires.1 c.emit-size.ensures c.args.spare.now c.requires.4 ∙ sym (count_length c.requires.0 c.requires.1 c.emit-size.ensures c.args.order.now c.requires.3))

pub returns : goal.returns
returns c = of_copy c.requires.0 c.requires.1 c.emit-size.ensures c.emit_sorted.ensures
