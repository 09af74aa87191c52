use Rattle.steps.proofs.ClassSteps.{run_counts}
use Rattle.text.proofs.AtomItems.{last_run}
use Rattle.output.proofs.Emitting.{start, turn, finish, range_begin, range_here, in_front_lem}
use mathlib.Core.Path.{refl}
use Rattle.steps.proofs.class_steps.step5_class.Goals as goal

pub emit-counted-requires : goal.emit-counted-requires
emit-counted-requires c = range_begin c.requires.5 (run_counts _ _ _ _)

pub emit_run-listed-requires : goal.emit_run-listed-requires
emit_run-listed-requires c = range_here (turn (start c.requires.5) (run_counts _ _ _ _) c.emit-counted.ensures) (in_front_lem _ _)

pub emit-requires : goal.emit-requires
emit-requires c = range_here (turn (turn (start c.requires.5) (run_counts _ _ _ _) c.emit-counted.ensures) (in_front_lem _ _) c.emit_run-listed.ensures) (last_run _)

pub returns : goal.returns
returns c = finish (turn (turn (turn (start c.requires.5) (run_counts _ _ _ _) c.emit-counted.ensures) (in_front_lem _ _) c.emit_run-listed.ensures) (last_run _) c.emit.ensures) refl
