use Rattle.std.proofs.Common.{◌≡◌, ◌++◌, take, drop}
use Rattle.output.proofs.elements.copy.Given as goal

abbrev pub invariant-loop-i : goal.invariant-loop-i
invariant-loop-i g l = l.part ≡ take l.i l.items ++ drop l.i l.initial.part
