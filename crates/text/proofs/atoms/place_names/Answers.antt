use Rattle.std.proofs.Common.{arith}
use Rattle.text.proofs.PlaceTable.{places_begin, places_end, place_inside, place_fits, places_again}
use Rattle.text.proofs.atoms.place_names.Goals as goal

pub loop-start-init : goal.loop-start-init
loop-start-init c = places_begin c.requires

pub overflow_cast-start : goal.overflow_cast-start
overflow_cast-start c = omega (arith, place_fits c.loop-start.invariant (omega arith))

pub bounds-names-at : goal.bounds-names-at
bounds-names-at c = omega (arith, place_inside c.loop-start.invariant (omega arith))

pub overflow_add-at-in-loop-start : goal.overflow_add-at-in-loop-start
overflow_add-at-in-loop-start c = omega (arith, place_inside c.loop-start.invariant (omega arith))

pub loop-start-preserved : goal.loop-start-preserved
loop-start-preserved c = places_again c.loop-start.invariant (omega arith)

pub returns : goal.returns
returns c = places_end c.loop-start.invariant (omega arith)
