use Rattle.atom_lists.specs.ListWords.{each}
use Rattle.steps.specs.StepWords.{words789}
use Rattle.output.proofs.Emitting.{Emitting}
use Rattle.rules.specs.Lists.{from}
use Prim.Native.Nat.{◌-◌}
use Rattle.steps.proofs.steps.step789.Given as goal

abbrev pub invariant-loop-b : goal.invariant-loop-b
invariant-loop-b l = Emitting (each (words789 l.u) (from l.first (l.end - l.first))) l.initial.out l.at (each (words789 l.u) (from l.b (l.end - l.b))) l.out l.next
