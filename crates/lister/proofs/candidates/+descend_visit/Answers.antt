use native.Mathlib.Omega.{arith}
use Rattle.lister.proofs.FromStart.{ends_rise, told_listed}
use mathlib.Core.Path.{refl, ◌∙◌, sym}
use Rattle.descent.proofs.Told.{final_told, visit_passed, visit_closed, visit_open, descend_over, descend_on}
use Rattle.descent.proofs.Loops.{one_less, bit_is, room_out, room_in}
use borrow.Author.Tests.{not-true, not-false}
use Rattle.lister.proofs.candidates.+descend_visit.Goals as goal

pub descend-overflow_sub-rest : goal.descend-overflow_sub-rest
descend-overflow_sub-rest t c = c.requires.left_nonzero.0

pub descend-overflow_shl-with : goal.descend-overflow_shl-with
descend-overflow_shl-with t c = omega (arith, c.requires.left_nonzero.1)

pub descend-overflow_add-with : goal.descend-overflow_add-with
descend-overflow_add-with t c = omega (arith, room_in _ _ c.requires.left_nonzero.0 c.requires.left_nonzero.1 c.requires.left_bound refl)

pub descend-visit-after-requires : goal.descend-visit-after-requires
descend-visit-after-requires t c = (omega (arith, c.decreases, c.requires.left_nonzero.0), (c.requires.has_tables, (omega (arith, c.requires.left_nonzero), (room_out _ _ c.requires.left_nonzero.0 c.requires.left_nonzero.1 c.requires.left_bound, omega (arith, c.requires.left_nonzero.0, c.requires.left_bound_2)))))

pub descend-returns-then-terms-after : goal.descend-returns-then-terms-after
descend-returns-then-terms-after t c =
    record {
      told_by = descend_over _ (ends_rise _ _ _ _ _ _) _ _ _ _ _ _ (one_less _ _ c.requires.left_nonzero.0 c.requires.left_nonzero.1 c.requires.left_bound) c.if-terms-after.true c.visit-after.ensures.told_by;
      has_tables_2 = c.visit-after.ensures.has_tables_2;
    }

pub descend-visit-requires : goal.descend-visit-requires
descend-visit-requires t c = (omega (arith, c.decreases, c.requires.left_nonzero.0), (c.visit-after.ensures.has_tables_2.0, (omega (arith, c.requires.left_nonzero), (room_in _ _ c.requires.left_nonzero.0 c.requires.left_nonzero.1 c.requires.left_bound refl, omega (arith, c.requires.left_nonzero, c.if-terms-after.false)))))

pub descend-returns : goal.descend-returns
descend-returns t c =
    record {
      told_by = descend_on _ (ends_rise _ _ _ _ _ _) _ _ _ _ _ _ (one_less _ _ c.requires.left_nonzero.0 c.requires.left_nonzero.1 c.requires.left_bound) _ (bit_is _ _ c.requires.left_nonzero.0 c.requires.left_nonzero.1 c.requires.left_bound refl) (omega (arith, c.args.terms.now.budget_le_budget_limit)) c.if-terms-after.false c.visit-after.ensures.told_by (told_listed _ _ c.visit-after.ensures.has_tables_2.1 _ _ _ _ _ _ _ c.visit.ensures.told_by);
      has_tables_2 = (c.visit.ensures.has_tables_2.0, c.visit.ensures.has_tables_2.1 ∙ c.visit-after.ensures.has_tables_2.1);
    }

pub visit-is_before-requires : goal.visit-is_before-requires
visit-is_before-requires t c =
    record {
      rest_lt_walk_atoms = c.requires.rest_lt_walk_atoms;
      rest_bound = c.requires.rest_bound;
    }

pub visit-returns-then-is_before : goal.visit-returns-then-is_before
visit-returns-then-is_before t c =
    record {
      told_by = visit_passed _ (ends_rise _ _ _ _ _ _) _ _ _ _ _ _ (not-true _ (sym c.is_before.ensures ∙ c.if-is_before.true)) (omega (arith, c.args.terms.now.budget_le_budget_limit, c.requires.rest_bound_2));
      has_tables_2 = (c.requires.has_tables, refl);
    }

pub visit-overflow_add-used : goal.visit-overflow_add-used
visit-overflow_add-used t c = omega (arith, c.args.terms.now.budget_le_budget_limit, c.requires.rest_bound_2)

pub visit-closes-requires : goal.visit-closes-requires
visit-closes-requires t c =
    record {
      bounded = c.requires.has_tables.bounded;
      paired = c.requires.has_tables.paired;
      rest_lt_walk_atoms = c.requires.rest_lt_walk_atoms;
    }

pub visit-returns-then-closes : goal.visit-returns-then-closes
visit-returns-then-closes t c =
    record {
      told_by = visit_closed _ (ends_rise _ _ _ _ _ _) _ _ _ _ _ _ (not-false _ (sym c.is_before.ensures ∙ c.if-is_before.false)) (sym c.closes.ensures ∙ c.if-closes.true) (omega (arith, c.args.terms.now.budget_le_budget_limit, c.requires.rest_bound_2));
      has_tables_2 = (c.requires.has_tables, refl);
    }

pub visit-candidate-requires : goal.visit-candidate-requires
visit-candidate-requires t c =
    record {
      has_tables = c.requires.has_tables;
      units_bound = omega (arith, c.requires.rest_bound_2);
    }

pub visit-returns-then-rest-eq0 : goal.visit-returns-then-rest-eq0
visit-returns-then-rest-eq0 t c =
    record {
      told_by = visit_open _ (ends_rise _ _ _ _ _ _) _ _ _ _ _ _ (not-false _ (sym c.is_before.ensures ∙ c.if-is_before.false)) (sym c.closes.ensures ∙ c.if-closes.false) (final_told _ (ends_rise _ _ _ _ _ _) _ _ _ _ _ c.if-rest-eq0.true c.candidate.ensures.told_by);
      has_tables_2 = c.candidate.ensures.has_tables_2;
    }

pub visit-descend-requires : goal.visit-descend-requires
visit-descend-requires t c = (omega (arith, c.decreases), (c.requires.has_tables, ((omega (arith, c.if-rest-eq0.false), omega (arith, c.requires.rest_lt_walk_atoms)), (c.requires.rest_bound, omega (arith, c.requires.rest_bound_2)))))

pub visit-returns : goal.visit-returns
visit-returns t c =
    record {
      told_by = visit_open _ (ends_rise _ _ _ _ _ _) _ _ _ _ _ _ (not-false _ (sym c.is_before.ensures ∙ c.if-is_before.false)) (sym c.closes.ensures ∙ c.if-closes.false) c.descend.ensures.told_by;
      has_tables_2 = c.descend.ensures.has_tables_2;
    }
