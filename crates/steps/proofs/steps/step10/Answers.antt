use Rattle.steps.specs.StepWords.{words10}
use Rattle.steps.proofs.steps.step10.Goals as goal

pub emit-requires : goal.emit-requires
unfolding words10
emit-requires c = c.requires.2

pub returns : goal.returns
unfolding words10
returns c = c.emit.ensures
