use native.Mathlib.Omega.{arith}
use Rattle.condition_parts.proofs.WordPlaces.{opening_past, opening_here, no_opening}
use Rattle.condition_parts.proofs.places.opening_at.Goals as goal

pub overflow_add-result : goal.overflow_add-result
overflow_add-result c = omega (arith, (opening_past (opening_here c.args.s.now c.args.at c.bracket_at.ensures c.in-Opening.is)).inside)

pub returns-in-Opening : goal.returns-in-Opening
returns-in-Opening c = opening_here c.args.s.now c.args.at c.bracket_at.ensures c.in-Opening.is

pub returns-in-Closing : goal.returns-in-Closing
returns-in-Closing c = no_opening c.args.s.now c.args.at c.bracket_at.ensures c.in-Closing.is
