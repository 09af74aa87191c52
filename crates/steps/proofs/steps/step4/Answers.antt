use Rattle.steps.proofs.StepLaws.{ends_words}
use Rattle.output.proofs.Emitting.{renamed, range_renamed}
use mathlib.Core.Path.{sym}
use Rattle.steps.proofs.steps.step4.Goals as goal

pub emit-requires : goal.emit-requires
emit-requires c = range_renamed c.requires (ends_words _ _)

pub returns : goal.returns
returns c = renamed c.emit.ensures (sym (ends_words _ _))
