use Rattle.printing.proofs.PrintedLines.{refused_range, refused_opens}
use Rattle.text.proofs.AtomItems.{last_run}
use Rattle.output.proofs.Emitting.{start, turn, finish, range_here, in_front_lem, one_in_front}
use mathlib.Core.Path.{refl}
use Rattle.printing.proofs.printing.emit_refused.Goals as goal

pub emit_decimal-numbered-requires : goal.emit_decimal-numbered-requires
emit_decimal-numbered-requires c = range_here (turn (start (refused_range _ _)) (refused_opens c.args.refusal c.args.line c.number.ensures) c.emit-opened.ensures) (in_front_lem _ _)

pub push-spaced-requires : goal.push-spaced-requires
push-spaced-requires c = range_here (turn (turn (start (refused_range _ _)) (refused_opens c.args.refusal c.args.line c.number.ensures) c.emit-opened.ensures) (in_front_lem _ _) c.emit_decimal-numbered.ensures) (one_in_front _ _)

pub emit_decimal-lined-requires : goal.emit_decimal-lined-requires
emit_decimal-lined-requires c = range_here (turn (turn (turn (start (refused_range _ _)) (refused_opens c.args.refusal c.args.line c.number.ensures) c.emit-opened.ensures) (in_front_lem _ _) c.emit_decimal-numbered.ensures) (one_in_front _ _) c.push-spaced.ensures) (in_front_lem _ _)

pub emit-requires : goal.emit-requires
emit-requires c = range_here (turn (turn (turn (turn (start (refused_range _ _)) (refused_opens c.args.refusal c.args.line c.number.ensures) c.emit-opened.ensures) (in_front_lem _ _) c.emit_decimal-numbered.ensures) (one_in_front _ _) c.push-spaced.ensures) (in_front_lem _ _) c.emit_decimal-lined.ensures) (last_run _)

pub returns : goal.returns
returns c = finish (turn (turn (turn (turn (turn (start (refused_range _ _)) (refused_opens c.args.refusal c.args.line c.number.ensures) c.emit-opened.ensures) (in_front_lem _ _) c.emit_decimal-numbered.ensures) (one_in_front _ _) c.push-spaced.ensures) (in_front_lem _ _) c.emit_decimal-lined.ensures) (last_run _) c.emit.ensures) refl
