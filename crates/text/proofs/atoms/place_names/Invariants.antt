use Rattle.text.proofs.PlaceTable.{Placing}
use Rattle.text.proofs.atoms.place_names.Given as goal

abbrev pub invariant-loop-start : goal.invariant-loop-start
invariant-loop-start l = Placing l.names l.initial.starts l.starts l.at l.start-index
