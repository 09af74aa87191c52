use Rattle.printing.proofs.PrintedLines.{member_out, member_in}
use Rattle.text.proofs.AtomItems.{last_run}
use Rattle.output.proofs.Emitting.{none, start, turn, finish, range_begin, range_here, range_renamed, renamed}
use mathlib.Core.Path.{refl, sym}
use Rattle.printing.proofs.printing.emit_member.Goals as goal

pub push-next-requires : goal.push-next-requires
push-next-requires c = range_begin c.requires.2 (member_in _ _ _ c.has_atom.ensures c.if-has_atom.true)

pub emit-requires : goal.emit-requires
emit-requires c = range_renamed (range_here (turn (start c.requires.2) (member_in _ _ _ c.has_atom.ensures c.if-has_atom.true) c.push-next.ensures) (last_run _)) (sym c.name_at.ensures)

pub returns-then-has_atom : goal.returns-then-has_atom
returns-then-has_atom c = finish (turn (turn (start c.requires.2) (member_in _ _ _ c.has_atom.ensures c.if-has_atom.true) c.push-next.ensures) (last_run _) (renamed c.emit.ensures c.name_at.ensures)) refl

pub returns : goal.returns
returns c = renamed none (member_out _ _ _ c.has_atom.ensures c.if-has_atom.false)
