use Rattle.std.proofs.Common.{arith, set}
use mathlib.Core.Path.{ap, ◌∙◌}
use Rattle.output.proofs.Copying.{copied_next}
use Rattle.output.proofs.elements.copy.Goals as goal

pub loop-i-preserved : goal.loop-i-preserved
loop-i-preserved g c =
    ap (λ r. set r c.loop-i.i c.index-items-i.result) c.loop-i.invariant
    ∙ copied_next c.args.items.now c.args.part.now c.loop-i.i c.index-items-i.result c.loop-i-test.true (omega (arith, c.requires)) c.index-items-i.is
