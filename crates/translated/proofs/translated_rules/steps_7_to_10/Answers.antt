use Rattle.text.proofs.AtomItems.{last_run}
use Rattle.output.proofs.Emitting.{start, turn, finish, range_begin, range_here, in_front_lem}
use mathlib.Core.Path.{refl}
use Rattle.translated.proofs.translated_rules.steps_7_to_10.Goals as goal

pub step789-eighth-requires : goal.step789-eighth-requires
step789-eighth-requires c = range_begin c.requires.2 (in_front_lem _ _)

pub step789-ninth-requires : goal.step789-ninth-requires
step789-ninth-requires c = range_here (turn (start c.requires.2) (in_front_lem _ _) c.step789-eighth.ensures) (in_front_lem _ _)

pub step789-tenth-requires : goal.step789-tenth-requires
step789-tenth-requires c = range_here (turn (turn (start c.requires.2) (in_front_lem _ _) c.step789-eighth.ensures) (in_front_lem _ _) c.step789-ninth.ensures) (in_front_lem _ _)

pub step10-requires : goal.step10-requires
step10-requires c = (c.requires.1.e_fits, c.requires.0, range_here (turn (turn (turn (start c.requires.2) (in_front_lem _ _) c.step789-eighth.ensures) (in_front_lem _ _) c.step789-ninth.ensures) (in_front_lem _ _) c.step789-tenth.ensures) (last_run _))

pub returns : goal.returns
returns c = finish (turn (turn (turn (turn (start c.requires.2) (in_front_lem _ _) c.step789-eighth.ensures) (in_front_lem _ _) c.step789-ninth.ensures) (in_front_lem _ _) c.step789-tenth.ensures) (last_run _) c.step10.ensures) refl
