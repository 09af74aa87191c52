use Prim.Native.Nat.{◌<◌}
use native.Mathlib.Omega.{arith}
use mathlib.Core.Path.{sym, ◌∙◌}
use mathlib.Core.Bool.{false}
use lib.Seq.{length-take-le}
use Rattle.std.proofs.lemmas.List.{get_or-take}
use Rattle.used_atoms.proofs.Numbering.{numbers_begin, with_mark, without_mark}
use Rattle.used_atoms.proofs.marks.number_atoms.Goals as goal
use Rattle.used_atoms.proofs.marks.number_atoms.Goals.{else-mark, then-mark}

pub loop-i-init : goal.loop-i-init
loop-i-init c = numbers_begin c.requires

pub loop-i-preserved : goal.loop-i-preserved
loop-i-preserved c =
    let l : c.loop-i.i < c.args.n = omega (arith, length-take-le _ _ c.requires.0, c.loop-i-test.true) in
    let same = get_or-take c.args.n c.args.marks.now c.loop-i.i false l in
    elim c.if-mark.branch [ then-mark w ↦ with_mark c.loop-i.invariant l (sym same ∙ w.if-mark.true) w.left-is | else-mark w ↦ without_mark c.loop-i.invariant l (sym same ∙ w.if-mark.false) w.left-is ]
