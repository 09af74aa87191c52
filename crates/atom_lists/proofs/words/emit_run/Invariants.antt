use Rattle.atom_lists.specs.ListWords.{each, single}
use Rattle.output.proofs.Emitting.{Emitting}
use Rattle.rules.specs.Lists.{from}
use Prim.Native.Nat.{◌-◌}
use Rattle.atom_lists.proofs.words.emit_run.Given as goal

abbrev pub invariant-loop-word : goal.invariant-loop-word
invariant-loop-word l = Emitting (each single (from l.first (l.end - l.first))) l.initial.out l.at (each single (from l.word (l.end - l.word))) l.out l.next
