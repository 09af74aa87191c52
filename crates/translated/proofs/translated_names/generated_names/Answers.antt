use Rattle.text.proofs.AtomItems.{last_run}
use Rattle.output.proofs.Emitting.{start, turn, finish, range_begin, range_here, in_front_lem}
use mathlib.Core.Path.{refl}
use Rattle.translated.proofs.translated_names.generated_names.Goals as goal

pub dotted_names-negated-requires : goal.dotted_names-negated-requires
dotted_names-negated-requires c = (c.requires.0, range_begin c.requires.4 (in_front_lem _ _))

pub dotted_names-copied-requires : goal.dotted_names-copied-requires
dotted_names-copied-requires c = (c.requires.1, range_here (turn (start c.requires.4) (in_front_lem _ _) c.dotted_names-negated.ensures) (in_front_lem _ _))

pub dotted_names-differed-requires : goal.dotted_names-differed-requires
dotted_names-differed-requires c = (c.requires.2, range_here (turn (turn (start c.requires.4) (in_front_lem _ _) c.dotted_names-negated.ensures) (in_front_lem _ _) c.dotted_names-copied.ensures) (in_front_lem _ _))

pub end_names-ended-requires : goal.end_names-ended-requires
end_names-ended-requires c = (c.requires.3, range_here (turn (turn (turn (start c.requires.4) (in_front_lem _ _) c.dotted_names-negated.ensures) (in_front_lem _ _) c.dotted_names-copied.ensures) (in_front_lem _ _) c.dotted_names-differed.ensures) (in_front_lem _ _))

pub emit-requires : goal.emit-requires
emit-requires c = range_here (turn (turn (turn (turn (start c.requires.4) (in_front_lem _ _) c.dotted_names-negated.ensures) (in_front_lem _ _) c.dotted_names-copied.ensures) (in_front_lem _ _) c.dotted_names-differed.ensures) (in_front_lem _ _) c.end_names-ended.ensures) (last_run _)

pub returns : goal.returns
returns c = finish (turn (turn (turn (turn (turn (start c.requires.4) (in_front_lem _ _) c.dotted_names-negated.ensures) (in_front_lem _ _) c.dotted_names-copied.ensures) (in_front_lem _ _) c.dotted_names-differed.ensures) (in_front_lem _ _) c.end_names-ended.ensures) (last_run _) c.emit.ensures) refl
