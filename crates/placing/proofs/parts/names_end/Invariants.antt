use Rattle.placing.proofs.PlacedParts.{Passing}
use Rattle.placing.proofs.parts.names_end.Given as goal

abbrev pub invariant-loop : goal.invariant-loop
invariant-loop l = Passing l.bytes l.count l.at l.counter
