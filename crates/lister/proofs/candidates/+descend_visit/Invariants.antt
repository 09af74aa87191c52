use Prim.Native.Nat.{suc, ◌*◌}
use Rattle.lister.proofs.candidates.+descend_visit.Given as goal

abbrev pub decreases-descend : goal.decreases-descend
decreases-descend l = 2 * l.left

abbrev pub decreases-visit : goal.decreases-visit
decreases-visit l = suc (2 * l.rest)
