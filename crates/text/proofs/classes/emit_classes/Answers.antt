use Rattle.text.proofs.ClassItems.{mins_ahead, vary_before, fix_inside, vary_ahead, fix_ahead}
use Rattle.output.proofs.Emitting.{start, turn, finish, range_begin, range_here}
use native.Mathlib.Omega.{arith}
use mathlib.Core.Path.{refl}
use Rattle.text.proofs.classes.emit_classes.Goals as goal

pub emit_min_lines-listed-requires : goal.emit_min_lines-listed-requires
emit_min_lines-listed-requires c = (c.requires.0, range_begin c.requires.1 (mins_ahead _ c.requires.0))

pub class_end-fix-requires : goal.class_end-fix-requires
class_end-fix-requires c = vary_before c.requires.0 c.class_end-vary.ensures

pub emit_line-varied-requires : goal.emit_line-varied-requires
emit_line-varied-requires c = (fix_inside c.requires.0 c.class_end-fix.ensures, range_here (turn (start c.requires.1) (mins_ahead _ c.requires.0) c.emit_min_lines-listed.ensures) (vary_ahead _ c.requires.0 c.class_end-vary.ensures c.class_end-fix.ensures))

pub emit_line-requires : goal.emit_line-requires
emit_line-requires c = (omega (arith, c.requires.0.form.1), range_here (turn (turn (start c.requires.1) (mins_ahead _ c.requires.0) c.emit_min_lines-listed.ensures) (vary_ahead _ c.requires.0 c.class_end-vary.ensures c.class_end-fix.ensures) c.emit_line-varied.ensures) (fix_ahead _ c.requires.0 c.class_end-vary.ensures c.class_end-fix.ensures))

pub returns : goal.returns
returns c = finish (turn (turn (turn (start c.requires.1) (mins_ahead _ c.requires.0) c.emit_min_lines-listed.ensures) (vary_ahead _ c.requires.0 c.class_end-vary.ensures c.class_end-fix.ensures) c.emit_line-varied.ensures) (fix_ahead _ c.requires.0 c.class_end-vary.ensures c.class_end-fix.ensures) c.emit_line.ensures) refl
