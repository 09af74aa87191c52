use Rattle.conditions.specs.Numbers.{placing}
use Rattle.placing.proofs.PlaceNumbers.{Numbering}
use Rattle.placing.proofs.numbers.number_places.Given as goal

abbrev pub invariant-loop-atom : goal.invariant-loop-atom
invariant-loop-atom l = Numbering (placing l.first l.declared l.made) l.initial.number-items l.number-items l.atom
