use Rattle.text.proofs.AtomItems.{atom_space, last_run}
use Rattle.output.proofs.Emitting.{start, turn, finish, range_begin, range_here, range_renamed, renamed}
use mathlib.Core.Path.{refl, sym}
use Rattle.text.proofs.atoms.emit_atom.Goals as goal

pub push-next-requires : goal.push-next-requires
push-next-requires c = range_begin c.requires.1 (atom_space _ _)

pub emit_name-requires : goal.emit_name-requires
emit_name-requires c = range_renamed (range_here (turn (start c.requires.1) (atom_space _ _) c.push-next.ensures) (last_run _)) (sym c.name_at.ensures)

pub returns : goal.returns
returns c = finish (turn (turn (start c.requires.1) (atom_space _ _) c.push-next.ensures) (last_run _) (renamed c.emit_name.ensures c.name_at.ensures)) refl
