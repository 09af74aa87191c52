use native.Mathlib.Omega.{arith}
use Rattle.placing.proofs.PlaceNumbers.{before_made, behind_made, among_made}
use Rattle.placing.proofs.numbers.place.Goals as goal

pub returns-then-atom-first : goal.returns-then-atom-first
returns-then-atom-first c = (before_made _ _ _ _ c.if-atom-first.true, omega arith)

pub returns-then-atom-declared : goal.returns-then-atom-declared
returns-then-atom-declared c = (behind_made _ _ _ _ c.if-atom-first.false c.if-atom-declared.true, omega arith)

pub returns : goal.returns
returns c = (among_made _ _ _ _ c.if-atom-first.false c.if-atom-declared.false, omega arith)
