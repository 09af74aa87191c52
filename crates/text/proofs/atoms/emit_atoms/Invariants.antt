use Rattle.output.proofs.Emitting.{Emitting}
use Rattle.text.specs.Items.{atom_items}
use lib.ListN.{drop}
use Rattle.text.specs.PlacedNames.{names_in}
use Rattle.text.proofs.atoms.emit_atoms.Given as goal

abbrev pub invariant-loop-atom : goal.invariant-loop-atom
invariant-loop-atom l = Emitting (atom_items (names_in l.names) l.atoms) l.initial.out l.at (atom_items (names_in l.names) (drop l.atom-index l.atoms)) l.out l.next
