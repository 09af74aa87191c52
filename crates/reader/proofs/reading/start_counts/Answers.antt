use mathlib.Core.Path.{ap}
use Rattle.kinds.specs.declared.limits.Counts.{Counts}
use Rattle.lines.specs.declared.stage.Stage.TheVariants.{Declaring}
use Rattle.gathering.specs.declared.gathered.Gathered.{Gathered}
use Rattle.reader.proofs.reading.start_counts.Goals as goal

with-counts : Counts → Gathered
with-counts k = record { stage = Declaring; classes = 0; counts = k; made = 0; words = 4; bytes = 0 }

pub returns : goal.returns
unfolding with-counts
returns c = ap with-counts c.empty.ensures
