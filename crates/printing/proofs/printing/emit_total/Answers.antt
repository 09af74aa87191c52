use Rattle.printing.proofs.PrintedLines.{total_opens}
use Rattle.text.proofs.AtomItems.{last_run}
use Rattle.output.proofs.Emitting.{start, turn, finish, range_begin, range_here, in_front_lem}
use mathlib.Core.Path.{refl}
use Rattle.printing.proofs.printing.emit_total.Goals as goal

pub emit-opened-requires : goal.emit-opened-requires
emit-opened-requires c = range_begin c.requires (total_opens _)

pub emit_decimal-counted-requires : goal.emit_decimal-counted-requires
emit_decimal-counted-requires c = range_here (turn (start c.requires) (total_opens _) c.emit-opened.ensures) (in_front_lem _ _)

pub emit-requires : goal.emit-requires
emit-requires c = range_here (turn (turn (start c.requires) (total_opens _) c.emit-opened.ensures) (in_front_lem _ _) c.emit_decimal-counted.ensures) (last_run _)

pub returns : goal.returns
returns c = finish (turn (turn (turn (start c.requires) (total_opens _) c.emit-opened.ensures) (in_front_lem _ _) c.emit_decimal-counted.ensures) (last_run _) c.emit.ensures) refl
