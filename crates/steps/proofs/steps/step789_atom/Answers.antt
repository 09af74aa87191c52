use Rattle.steps.specs.StepWords.{words789}
use Rattle.steps.proofs.steps.step789_atom.Goals as goal

pub emit-requires : goal.emit-requires
unfolding words789
emit-requires c = c.requires

pub returns : goal.returns
unfolding words789
returns c = c.emit.ensures
