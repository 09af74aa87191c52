use Prim.Native.Nat.{◌-◌, ◌^◌}
use Rattle.kinds.specs.Limits.{budget_limit}
use Rattle.text.specs.PlacedNames.{names_in}
use Rattle.groups.specs.Plans.{classes_in, starts_in, care_in, want_in, SameTables, HasTables}
use Rattle.lister.specs.NextMasks.{next_m}
use Rattle.listing.proofs.ListedStates.{Listing}
use Rattle.listing.proofs.listing.emit_listing.Given as goal

abbrev pub invariant-loop-next : goal.invariant-loop-next
invariant-loop-next l = (HasTables l.plan × SameTables l.plan l.initial.plan) × Listing (λ t. next_m (care_in l.initial.plan) (want_in l.initial.plan) (starts_in l.initial.plan) (classes_in l.initial.plan) l.fixed l.atoms t budget_limit) l.atoms (names_in l.names) l.initial.out l.out l.next l.start l.count

abbrev pub decreases-loop-next : goal.decreases-loop-next
decreases-loop-next l = 2 ^ l.atoms - l.start
