use Rattle.translated.proofs.NameLaws.{names_begin, names_end, name_stored, name_inside, name_range, names_again}
use Rattle.output.proofs.Emitting.{length_kept}
use native.Mathlib.Omega.{arith}
use Rattle.translated.proofs.translated_names.dotted_names.Goals as goal

pub loop-init : goal.loop-init
loop-init c = names_begin c.requires.0 c.requires.1

pub slice_bounds-dotted_name-count : goal.slice_bounds-dotted_name-count
slice_bounds-dotted_name-count c = omega (arith, name_inside c.loop.invariant c.loop-test.true)

pub slice_bounds-dotted_name-start : goal.slice_bounds-dotted_name-start
slice_bounds-dotted_name-start c = omega (arith, name_inside c.loop.invariant c.loop-test.true)

pub dotted_name-next-requires : goal.dotted_name-next-requires
dotted_name-next-requires c = (name_stored c.loop.invariant c.loop-test.true, name_range c.loop.invariant c.loop-test.true)

pub bounds-bytes-from : goal.bounds-bytes-from
bounds-bytes-from c = omega (arith, name_inside c.loop.invariant c.loop-test.true)

pub overflow_cast-from : goal.overflow_cast-from
overflow_cast-from c = omega (arith, name_inside c.loop.invariant c.loop-test.true)

pub overflow_add-from : goal.overflow_add-from
overflow_add-from c = omega (arith, name_inside c.loop.invariant c.loop-test.true)

pub overflow_add-from-in-loop : goal.overflow_add-from-in-loop
overflow_add-from-in-loop c = omega (arith, name_inside c.loop.invariant c.loop-test.true)

pub loop-preserved : goal.loop-preserved
loop-preserved c = names_again c.loop.invariant c.loop-test.true c.dotted_name-next.ensures

pub shape_of-out : goal.shape_of-out
shape_of-out c = length_kept c.loop.invariant.so

pub returns : goal.returns
returns c = names_end c.loop.invariant c.loop-test.false
