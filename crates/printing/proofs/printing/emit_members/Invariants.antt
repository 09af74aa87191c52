use Rattle.output.proofs.Emitting.{Emitting}
use Rattle.printing.specs.Parts.{members}
use lib.ListN.{length}
use Rattle.text.specs.PlacedNames.{names_in}
use Rattle.printing.proofs.printing.emit_members.Given as goal

abbrev pub invariant-loop-atom : goal.invariant-loop-atom
invariant-loop-atom l = Emitting (members (names_in l.names) l.set 0 (length l.names.starts.now)) l.initial.out l.at (members (names_in l.names) l.set l.atom (length l.names.starts.now)) l.out l.next
