use Rattle.steps.proofs.StepLaws.{second_alone, both_rules}
use Rattle.output.proofs.Emitting.{renamed, range_renamed}
use mathlib.Core.Path.{sym}
use Rattle.steps.proofs.steps.step1_atom.Goals as goal

pub emit-requires : goal.emit-requires
emit-requires c = range_renamed c.requires.2 (second_alone _ _ _ c.if-a-minimised.true)

pub returns-then-a-minimised : goal.returns-then-a-minimised
returns-then-a-minimised c = renamed c.emit.ensures (sym (second_alone _ _ _ c.if-a-minimised.true))

pub emit-requires-2 : goal.emit-requires-2
emit-requires-2 c = range_renamed c.requires.2 (both_rules _ _ _ c.if-a-minimised.false)

pub returns : goal.returns
returns c = renamed c.emit-2.ensures (sym (both_rules _ _ _ c.if-a-minimised.false))
