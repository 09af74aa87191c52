use Rattle.text.proofs.AtomItems.{last_run}
use Rattle.output.proofs.Emitting.{start, turn, finish, range_begin, range_here, in_front_lem}
use mathlib.Core.Path.{refl}
use Rattle.translated.proofs.translated_rules.steps_1_to_3.Goals as goal

pub step1-second-requires : goal.step1-second-requires
step1-second-requires c = (c.requires.0.small.n_fits, range_begin c.requires.1 (in_front_lem _ _))

pub step2-third-requires : goal.step2-third-requires
step2-third-requires c = (c.requires.0.small.n_fits, c.requires.0.rules, range_here (turn (start c.requires.1) (in_front_lem _ _) c.step1-second.ensures) (in_front_lem _ _))

pub step3-requires : goal.step3-requires
step3-requires c = (c.requires.0.small, c.requires.0.rules, range_here (turn (turn (start c.requires.1) (in_front_lem _ _) c.step1-second.ensures) (in_front_lem _ _) c.step2-third.ensures) (last_run _))

pub returns : goal.returns
returns c = finish (turn (turn (turn (start c.requires.1) (in_front_lem _ _) c.step1-second.ensures) (in_front_lem _ _) c.step2-third.ensures) (last_run _) c.step3.ensures) refl
