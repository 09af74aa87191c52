use native.Mathlib.Omega.{arith}
use mathlib.Core.Path.{sym}
use lib.ListN.{length-replicate}
use lib.Seq.{length-take-le}
use Rattle.kinds.specs.Limits.{varying}
use Rattle.placing.proofs.PlacedParts.{first_range, second_range, third_range, three_runs, class_runs}
use Rattle.placing.proofs.parts.put_classes.Goals as goal

pub slice_bounds-emit-end : goal.slice_bounds-emit-end
slice_bounds-emit-end c = sym (length-take-le _ _ c.requires.0)

pub emit-begun-requires : goal.emit-begun-requires
emit-begun-requires c = first_range (class_runs _ _ _) c.requires.1

pub emit_copies-filled-requires : goal.emit_copies-filled-requires
emit_copies-filled-requires c = omega (arith, (second_range (class_runs _ _ _) c.requires.1 c.emit-begun.ensures).below, length-replicate c.args.made varying)

pub emit-requires : goal.emit-requires
emit-requires c = third_range (class_runs _ _ _) c.requires.1 c.emit-begun.ensures c.emit_copies-filled.ensures

pub returns : goal.returns
returns c = three_runs (class_runs _ _ _) c.requires.1 c.emit-begun.ensures c.emit_copies-filled.ensures c.emit.ensures
