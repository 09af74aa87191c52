use Rattle.atom_lists.specs.ListWords.{each}
use Rattle.steps.specs.StepWords.{words6}
use Rattle.output.proofs.Emitting.{Emitting}
use Rattle.rules.specs.Lists.{from}
use Prim.Native.Nat.{◌-◌}
use Rattle.steps.proofs.steps.step6.Given as goal

abbrev pub invariant-loop-a : goal.invariant-loop-a
invariant-loop-a l = Emitting (each (words6 l.classes l.o) (from 0 (l.minimised - 0))) l.initial.out l.at (each (words6 l.classes l.o) (from l.a (l.minimised - l.a))) l.out l.next
