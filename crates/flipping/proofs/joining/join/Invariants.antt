use Rattle.flipping.proofs.JoinLoop.{Joining}
use Rattle.stores.specs.RuleStore.{rules_from}
use Prim.Native.Nat.{◌-◌}
use lib.ListN.{length}
use Rattle.flipping.proofs.joining.join.Given as goal

abbrev pub invariant-loop-rule : goal.invariant-loop-rule
invariant-loop-rule l = Joining (rules_from (length l.places) l.words) l.list l.own l.set (length l.places) l.initial.out l.out l.i l.j l.at l.rule

abbrev pub decreases-loop-rule : goal.decreases-loop-rule
decreases-loop-rule l = length l.places - l.rule
