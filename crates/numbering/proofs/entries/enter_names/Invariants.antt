use Prim.Native.Nat.{◌-◌}
use mathlib.Core.Path.{◌≡◌}
use lib.ListN.{length}
use Rattle.name_store.specs.NameStore.{decode_names}
use Rattle.numbering.proofs.Entering.{Entering}
use Rattle.numbering.proofs.entries.enter_names.Given as goal

abbrev pub invariant-loop-gap : goal.invariant-loop-gap
invariant-loop-gap l = (length l.bytes ≡ length l.initial.bytes) × (length l.starts ≡ length l.initial.starts) × (length l.firsts ≡ length l.initial.firsts) × (length l.links ≡ length l.initial.links) × Entering (decode_names l.count l.initial.bytes) l.line l.from l.bytes l.starts l.firsts l.links l.i l.atom l.at

abbrev pub decreases-loop-gap : goal.decreases-loop-gap
decreases-loop-gap l = length l.line - l.i
