use Rattle.atom_lists.specs.ListWords.{each}
use Rattle.translated.specs.NameBytes.{end_bytes}
use Rattle.output.proofs.Emitting.{Emitting}
use Rattle.rules.specs.Lists.{from}
use Prim.Native.Nat.{◌+◌, ◌-◌}
use Rattle.translated.proofs.translated_names.end_names.Given as goal

abbrev pub invariant-loop-j : goal.invariant-loop-j
invariant-loop-j l = Emitting (each end_bytes (from 0 (l.k + 1 - 0))) l.initial.out l.at (each end_bytes (from l.j (l.k + 1 - l.j))) l.out l.next
