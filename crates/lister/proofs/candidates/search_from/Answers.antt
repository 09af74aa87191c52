use mathlib.Core.Path.{refl}
use native.Mathlib.Omega.{arith}
use Rattle.descent.proofs.Told.{final_told}
use Rattle.descent.proofs.Loops.{room_whole}
use Rattle.lister.proofs.FromStart.{ends_rise, root_fits, root_even, root_read, all_before, empty_closed, empty_open}
use Rattle.lister.proofs.candidates.search_from.Goals as goal

pub returns-then-terms : goal.returns-then-terms
returns-then-terms c =
    record {
      told_by = all_before _ _ _ _ _ _ _ _ _ c.args.terms.now.atoms_le_walk_atoms c.if-terms.true;
      has_tables_2 = (c.requires.has_tables, refl);
    }

pub breaks-requires : goal.breaks-requires
breaks-requires c =
    record {
      to_le_place_limit = root_fits _ c.requires.has_tables 1 (omega arith);
      from_value = (root_even _ c.requires.has_tables 0 (omega arith), root_even _ c.requires.has_tables 1 (omega arith));
    }

pub returns-then-breaks : goal.returns-then-breaks
returns-then-breaks c =
    record {
      told_by = empty_closed _ _ _ _ _ _ _ _ _ c.args.terms.now.atoms_le_walk_atoms (omega (arith, c.if-terms.false)) (root_read _ c.breaks.ensures) c.if-breaks.true;
      has_tables_2 = (c.requires.has_tables, refl);
    }

pub candidate-requires : goal.candidate-requires
candidate-requires c =
    record {
      has_tables = c.requires.has_tables;
      units_bound = omega arith;
    }

pub returns-then-terms-eq0 : goal.returns-then-terms-eq0
returns-then-terms-eq0 c =
    record {
      told_by = empty_open _ _ _ _ _ _ _ _ _ c.args.terms.now.atoms_le_walk_atoms (omega (arith, c.if-terms.false)) (root_read _ c.breaks.ensures) c.if-breaks.false (final_told _ (ends_rise _ _ _ _ _ _) _ _ _ _ _ c.if-terms-eq0.true c.candidate.ensures.told_by);
      has_tables_2 = c.candidate.ensures.has_tables_2;
    }

pub descend-requires : goal.descend-requires
descend-requires c =
    record {
      has_tables = c.requires.has_tables;
      left_nonzero = (omega (arith, c.if-terms-eq0.false), c.args.terms.now.atoms_le_walk_atoms);
      left_bound = room_whole _ c.args.terms.now.atoms_le_walk_atoms;
      left_bound_2 = omega (arith, c.args.terms.now.atoms_le_walk_atoms);
    }

pub returns : goal.returns
returns c =
    record {
      told_by = empty_open _ _ _ _ _ _ _ _ _ c.args.terms.now.atoms_le_walk_atoms (omega (arith, c.if-terms.false)) (root_read _ c.breaks.ensures) c.if-breaks.false c.descend.ensures.told_by;
      has_tables_2 = c.descend.ensures.has_tables_2;
    }
