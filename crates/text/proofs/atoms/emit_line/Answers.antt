use Rattle.text.proofs.AtomItems.{line_opens, line_lists, last_run}
use Rattle.output.proofs.Emitting.{start, turn, finish, range_begin, range_here}
use mathlib.Core.Path.{refl}
use Rattle.text.proofs.atoms.emit_line.Goals as goal

pub emit-opened-requires : goal.emit-opened-requires
emit-opened-requires c = range_begin c.requires.1 (line_opens _ _ _)

pub emit_run-listed-requires : goal.emit_run-listed-requires
emit_run-listed-requires c = (c.requires.0, range_here (turn (start c.requires.1) (line_opens _ _ _) c.emit-opened.ensures) (line_lists _ _))

pub emit-requires : goal.emit-requires
emit-requires c = range_here (turn (turn (start c.requires.1) (line_opens _ _ _) c.emit-opened.ensures) (line_lists _ _) c.emit_run-listed.ensures) (last_run _)

pub returns : goal.returns
returns c = finish (turn (turn (turn (start c.requires.1) (line_opens _ _ _) c.emit-opened.ensures) (line_lists _ _) c.emit_run-listed.ensures) (last_run _) c.emit.ensures) refl
