use Rattle.output.proofs.Emitting.{Emitting}
use Rattle.text.specs.Items.{atom_items}
use Rattle.rules.specs.Lists.{from}
use Prim.Native.Nat.{◌-◌}
use Rattle.text.specs.PlacedNames.{names_in}
use Rattle.text.proofs.atoms.emit_run.Given as goal

abbrev pub invariant-loop-i : goal.invariant-loop-i
invariant-loop-i l = Emitting (atom_items (names_in l.names) (from l.first (l.end - l.first))) l.initial.out l.at (atom_items (names_in l.names) (from l.i (l.end - l.i))) l.out l.next
