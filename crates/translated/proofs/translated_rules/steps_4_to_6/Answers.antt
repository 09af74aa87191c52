use Rattle.text.proofs.AtomItems.{last_run}
use Rattle.output.proofs.Emitting.{start, turn, finish, range_begin, range_here, in_front_lem}
use mathlib.Core.Path.{refl}
use native.Mathlib.Omega.{arith}
use Rattle.translated.proofs.translated_rules.steps_4_to_6.Goals as goal

pub step4-fifth-requires : goal.step4-fifth-requires
step4-fifth-requires c = range_begin c.requires.1 (in_front_lem _ _)

pub step5-sixth-requires : goal.step5-sixth-requires
step5-sixth-requires c = (omega (arith, c.requires.0.atoms, c.requires.0.small.n_fits), c.requires.0.first.low, c.requires.0.rising, c.requires.0.classes, c.requires.0.small, range_here (turn (start c.requires.1) (in_front_lem _ _) c.step4-fifth.ensures) (in_front_lem _ _))

pub step6-requires : goal.step6-requires
step6-requires c = (omega (arith, c.requires.0.atoms, c.requires.0.small.n_fits), c.requires.0.first, c.requires.0.small, range_here (turn (turn (start c.requires.1) (in_front_lem _ _) c.step4-fifth.ensures) (in_front_lem _ _) c.step5-sixth.ensures) (last_run _))

pub returns : goal.returns
returns c = finish (turn (turn (turn (start c.requires.1) (in_front_lem _ _) c.step4-fifth.ensures) (in_front_lem _ _) c.step5-sixth.ensures) (last_run _) c.step6.ensures) refl
