use Rattle.atom_lists.specs.ListWords.{each}
use Rattle.steps.specs.StepWords.{words1}
use Rattle.output.proofs.Emitting.{Emitting}
use Rattle.rules.specs.Lists.{from}
use Prim.Native.Nat.{◌-◌}
use Rattle.steps.proofs.steps.step1.Given as goal

abbrev pub invariant-loop-a : goal.invariant-loop-a
invariant-loop-a l = Emitting (each (words1 l.minimised l.n) (from 0 (l.n - 0))) l.initial.out l.at (each (words1 l.minimised l.n) (from l.a (l.n - l.a))) l.out l.next
