use Rattle.std.proofs.Common.{replicate}
use Rattle.output.specs.Emitted.{Emitted}
use Rattle.output.proofs.elements.emit_copies.Given as goal

abbrev pub invariant-loop : goal.invariant-loop
invariant-loop g l = Emitted l.initial.out l.at (replicate l.counter l.x) l.out l.next
