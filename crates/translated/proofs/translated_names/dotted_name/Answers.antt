use Rattle.translated.proofs.NameLaws.{dotted_ahead}
use Rattle.text.proofs.AtomItems.{last_run}
use Rattle.output.proofs.Emitting.{start, turn, finish, range_begin, range_here}
use mathlib.Core.Path.{refl}
use Rattle.translated.proofs.translated_names.dotted_name.Goals as goal

pub emit-begun-requires : goal.emit-begun-requires
emit-begun-requires c = range_begin c.requires.1 (dotted_ahead _ c.requires.0)

pub emit-requires : goal.emit-requires
emit-requires c = range_here (turn (start c.requires.1) (dotted_ahead _ c.requires.0) c.emit-begun.ensures) (last_run _)

pub returns : goal.returns
returns c = finish (turn (turn (start c.requires.1) (dotted_ahead _ c.requires.0) c.emit-begun.ensures) (last_run _) c.emit.ensures) refl
