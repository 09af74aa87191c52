use Prim.Native.Nat.{◌-◌}
use mathlib.Core.Path.{◌≡◌}
use lib.ListN.{length}
use Rattle.numbering.proofs.NameBlocks.{Blocks}
use Rattle.numbering.proofs.entries.any_twice.Given as goal

abbrev pub invariant-loop-rest : goal.invariant-loop-rest
invariant-loop-rest l = (length l.bytes ≡ length l.initial.bytes) × (length l.starts ≡ length l.initial.starts) × (length l.firsts ≡ length l.initial.firsts) × (length l.links ≡ length l.initial.links) × Blocks l.line l.from l.at l.bytes l.starts l.firsts l.links

abbrev pub decreases-loop-rest : goal.decreases-loop-rest
decreases-loop-rest l = length l.line - l.at
