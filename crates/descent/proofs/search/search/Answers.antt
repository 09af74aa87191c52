use native.Mathlib.Omega.{arith}
use Rattle.descent.proofs.Told.{final_told}
use Rattle.descent.proofs.Loops.{room_whole, better_rises}
use Rattle.descent.proofs.search.search.Goals as goal

pub test_set-requires : goal.test_set-requires
test_set-requires c =
    record {
      searchable = c.requires.searchable;
      units_bound = omega arith;
    }

pub returns-then-atoms-eq0 : goal.returns-then-atoms-eq0
returns-then-atoms-eq0 c =
    record {
      told_by = final_told _ (better_rises _ _) _ _ _ _ _ c.if-atoms-eq0.true c.test_set.ensures.told_by;
      same_search = c.test_set.ensures.same_search;
    }

pub descend-requires : goal.descend-requires
descend-requires c =
    record {
      searchable = c.requires.searchable;
      left_nonzero = (omega (arith, c.if-atoms-eq0.false), c.requires.atoms_le_walk_atoms);
      left_bound = room_whole _ c.requires.atoms_le_walk_atoms;
      left_bound_2 = omega (arith, c.requires.atoms_le_walk_atoms);
    }

pub returns : goal.returns
returns c =
    record {
      told_by = c.descend.ensures.told_by;
      same_search = c.descend.ensures.same_search;
    }
