use Rattle.text.proofs.ClassItems.{MinsLeft}
use lib.ListN.{length}
use Rattle.text.specs.PlacedNames.{names_in}
use Rattle.text.proofs.classes.emit_min_lines.Given as goal

abbrev pub invariant-loop-class : goal.invariant-loop-class
invariant-loop-class l = MinsLeft (names_in l.names) (length l.names.starts.now) l.classes l.words l.initial.out l.at l.out l.next l.first l.class
