use mathlib.Core.Path.{refl, sym}
use native.Mathlib.Omega.{arith}
use Rattle.text.proofs.AtomItems.{last_run}
use Rattle.output.proofs.Emitting.{start, turn, finish, renamed, range_renamed, range_begin, range_here}
use Rattle.printing.proofs.PrintedLines.{one_digit, last_digit}
use Rattle.printing.proofs.printing.+emit_decimal.Goals as goal

pub push-requires : goal.push-requires
push-requires t c = range_renamed c.requires (sym (one_digit _ c.if-x-lt10.true))

pub returns-then-x-lt10 : goal.returns-then-x-lt10
returns-then-x-lt10 t c = renamed c.push.ensures (one_digit _ c.if-x-lt10.true)

pub emit_decimal-last-requires : goal.emit_decimal-last-requires
emit_decimal-last-requires t c = (omega arith, range_begin c.requires (last_digit _ (omega arith) c.if-x-lt10.false))

pub push-requires-2 : goal.push-requires-2
push-requires-2 t c = range_here (turn (start c.requires) (last_digit _ (omega arith) c.if-x-lt10.false) c.emit_decimal-last.ensures) (last_run _)

pub returns : goal.returns
returns t c = finish (turn (turn (start c.requires) (last_digit _ (omega arith) c.if-x-lt10.false) c.emit_decimal-last.ensures) (last_run _) c.push-2.ensures) refl
