use Rattle.translated.proofs.StoreWords.{steps_open}
use Rattle.text.proofs.AtomItems.{last_run}
use Rattle.output.proofs.Emitting.{start, turn, finish, range_begin, range_here, in_front_lem}
use mathlib.Core.Path.{refl}
use Rattle.translated.proofs.translated_rules.emit_steps.Goals as goal

pub steps_1_to_3-fourth-requires : goal.steps_1_to_3-fourth-requires
steps_1_to_3-fourth-requires c = (c.requires.0, range_begin c.requires.2 (steps_open _ _ _ _ _ _))

pub steps_4_to_6-seventh-requires : goal.steps_4_to_6-seventh-requires
steps_4_to_6-seventh-requires c = (c.requires.1, range_here (turn (start c.requires.2) (steps_open _ _ _ _ _ _) c.steps_1_to_3-fourth.ensures) (in_front_lem _ _))

pub steps_7_to_10-requires : goal.steps_7_to_10-requires
steps_7_to_10-requires c = (c.requires.1.classes, c.requires.1.small, range_here (turn (turn (start c.requires.2) (steps_open _ _ _ _ _ _) c.steps_1_to_3-fourth.ensures) (in_front_lem _ _) c.steps_4_to_6-seventh.ensures) (last_run _))

pub returns : goal.returns
returns c = finish (turn (turn (turn (start c.requires.2) (steps_open _ _ _ _ _ _) c.steps_1_to_3-fourth.ensures) (in_front_lem _ _) c.steps_4_to_6-seventh.ensures) (last_run _) c.steps_7_to_10.ensures) refl
