use native.Mathlib.Omega.{arith}
use mathlib.Core.Path.{sym}
use lib.Seq.{length-take-le}
use Rattle.placing.proofs.PlacedParts.{first_range, second_range, third_range, three_runs, split_inside, name_runs}
use Rattle.placing.proofs.parts.place_names.Goals as goal

pub slice_bounds-emit-end : goal.slice_bounds-emit-end
slice_bounds-emit-end c = sym (length-take-le _ _ (split_inside _ c.requires.0 c.names_end-split.ensures))

pub emit-begun-requires : goal.emit-begun-requires
emit-begun-requires c = first_range (name_runs _ c.requires.0 c.names_end-split.ensures _) c.requires.2

pub put_names-named-requires : goal.put_names-named-requires
put_names-named-requires c = (c.requires.1, second_range (name_runs _ c.requires.0 c.names_end-split.ensures _) c.requires.2 c.emit-begun.ensures)

pub slice_bounds-emit-count : goal.slice_bounds-emit-count
slice_bounds-emit-count c = omega (arith, split_inside _ c.requires.0 c.names_end-split.ensures)

pub slice_bounds-emit-start : goal.slice_bounds-emit-start
slice_bounds-emit-start c = omega (arith, split_inside _ c.requires.0 c.names_end-split.ensures)

pub emit-requires : goal.emit-requires
emit-requires c = third_range (name_runs _ c.requires.0 c.names_end-split.ensures _) c.requires.2 c.emit-begun.ensures c.put_names-named.ensures

pub returns : goal.returns
returns c = three_runs (name_runs _ c.requires.0 c.names_end-split.ensures _) c.requires.2 c.emit-begun.ensures c.put_names-named.ensures c.emit.ensures
