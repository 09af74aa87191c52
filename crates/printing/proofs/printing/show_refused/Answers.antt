use Rattle.printing.proofs.PrintedLines.{front_fits, written_front, refused_short, shown_renamed}
use native.Mathlib.Omega.{arith}
use Rattle.printing.proofs.printing.show_refused.Goals as goal

pub slice_bounds-show-end : goal.slice_bounds-show-end
slice_bounds-show-end c = omega (arith, front_fits c.emit_refused-size.ensures (refused_short _ _))

pub returns : goal.returns
returns c = shown_renamed (written_front c.emit_refused-size.ensures (refused_short _ _)) c.show.ensures
