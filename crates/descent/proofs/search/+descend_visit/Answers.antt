use mathlib.Core.Path.{◌∙◌, refl, sym}
use Rattle.descent.proofs.Loops.{one_less, bit_is, room_out, room_in, better_rises}
use Rattle.descent.proofs.Told.{descend_over, descend_on, final_told, visit_passed, visit_closed, visit_open}
use native.Mathlib.Omega.{arith}
use Rattle.descent.proofs.SameSearches.{same_budget, told_same, same_searchable}
use Rattle.descent.proofs.search.+descend_visit.Goals as goal

pub descend-overflow_sub-rest : goal.descend-overflow_sub-rest
descend-overflow_sub-rest t c = c.requires.left_nonzero.0

pub descend-visit-after-requires : goal.descend-visit-after-requires
descend-visit-after-requires t c = (omega (arith, c.decreases, c.requires.left_nonzero.0), (c.requires.searchable, (omega (arith, c.requires.left_nonzero), (room_out _ _ c.requires.left_nonzero.0 c.requires.left_nonzero.1 c.requires.left_bound, omega (arith, c.requires.left_nonzero.0, c.requires.left_bound_2)))))

pub descend-returns-then-plan-after : goal.descend-returns-then-plan-after
descend-returns-then-plan-after t c =
    record {
      told_by = descend_over _ (better_rises _ _) _ _ _ _ _ _ (one_less _ _ c.requires.left_nonzero.0 c.requires.left_nonzero.1 c.requires.left_bound) (omega (arith, same_budget c.args.plan.now c.visit-after.new.plan c.visit-after.ensures.same_search, c.if-plan-after.true)) c.visit-after.ensures.told_by;
      same_search = c.visit-after.ensures.same_search;
    }

pub descend-overflow_shl-with : goal.descend-overflow_shl-with
descend-overflow_shl-with t c = omega (arith, c.requires.left_nonzero.1)

pub descend-overflow_add-with : goal.descend-overflow_add-with
descend-overflow_add-with t c = omega (arith, room_in _ _ c.requires.left_nonzero.0 c.requires.left_nonzero.1 c.requires.left_bound (same_searchable c.args.plan.now c.visit-after.new.plan c.visit-after.ensures.same_search c.requires.searchable).one_is)

pub descend-visit-requires : goal.descend-visit-requires
descend-visit-requires t c = (omega (arith, c.decreases, c.requires.left_nonzero.0), (same_searchable c.args.plan.now c.visit-after.new.plan c.visit-after.ensures.same_search c.requires.searchable, (omega (arith, c.requires.left_nonzero), (room_in _ _ c.requires.left_nonzero.0 c.requires.left_nonzero.1 c.requires.left_bound (same_searchable c.args.plan.now c.visit-after.new.plan c.visit-after.ensures.same_search c.requires.searchable).one_is, omega (arith, c.requires.left_nonzero, c.if-plan-after.false)))))

pub descend-returns : goal.descend-returns
descend-returns t c =
    record {
      told_by = descend_on _ (better_rises _ _) _ _ _ _ _ _ (one_less _ _ c.requires.left_nonzero.0 c.requires.left_nonzero.1 c.requires.left_bound) _ (bit_is _ _ c.requires.left_nonzero.0 c.requires.left_nonzero.1 c.requires.left_bound (same_searchable c.args.plan.now c.visit-after.new.plan c.visit-after.ensures.same_search c.requires.searchable).one_is) (omega (arith, c.requires.searchable.budget_small)) (omega (arith, same_budget c.args.plan.now c.visit-after.new.plan c.visit-after.ensures.same_search, c.if-plan-after.false)) c.visit-after.ensures.told_by (told_same c.args.plan.now c.visit-after.new.plan c.visit-after.ensures.same_search _ _ _ _ c.visit.ensures.told_by);
      same_search = c.visit.ensures.same_search ∙ c.visit-after.ensures.same_search;
    }

pub visit-may_be-requires : goal.visit-may_be-requires
visit-may_be-requires t c =
    record {
      plan_value = c.requires.searchable.one_is;
      rest_lt_walk_atoms = c.requires.rest_lt_walk_atoms;
    }

pub visit-returns-then-not-may_be : goal.visit-returns-then-not-may_be
visit-returns-then-not-may_be t c =
    record {
      told_by = visit_passed _ (better_rises _ _) _ _ _ _ _ _ (sym c.may_be.ensures ∙ c.if-not-may_be.true) (omega (arith, c.requires.searchable.budget_small, c.requires.rest_bound_2));
      same_search = refl;
    }

pub visit-overflow_add-used : goal.visit-overflow_add-used
visit-overflow_add-used t c = omega (arith, c.requires.searchable.budget_small, c.requires.rest_bound_2)

pub visit-closes-requires : goal.visit-closes-requires
visit-closes-requires t c =
    record {
      bounded = c.requires.searchable.tables.bounded;
      paired = c.requires.searchable.tables.paired;
      rest_lt_walk_atoms = c.requires.rest_lt_walk_atoms;
    }

pub visit-returns-then-closes : goal.visit-returns-then-closes
visit-returns-then-closes t c =
    record {
      told_by = visit_closed _ (better_rises _ _) _ _ _ _ _ _ (sym c.may_be.ensures ∙ c.if-not-may_be.false) (sym c.closes.ensures ∙ c.if-closes.true) (omega (arith, c.requires.searchable.budget_small, c.requires.rest_bound_2));
      same_search = refl;
    }

pub visit-test_set-requires : goal.visit-test_set-requires
visit-test_set-requires t c =
    record {
      searchable = c.requires.searchable;
      units_bound = omega (arith, c.requires.rest_bound_2);
    }

pub visit-returns-then-rest-eq0 : goal.visit-returns-then-rest-eq0
visit-returns-then-rest-eq0 t c =
    record {
      told_by = visit_open _ (better_rises _ _) _ _ _ _ _ _ (sym c.may_be.ensures ∙ c.if-not-may_be.false) (sym c.closes.ensures ∙ c.if-closes.false) (final_told _ (better_rises _ _) _ _ _ _ _ c.if-rest-eq0.true c.test_set.ensures.told_by);
      same_search = c.test_set.ensures.same_search;
    }

pub visit-descend-requires : goal.visit-descend-requires
visit-descend-requires t c = (omega (arith, c.decreases), (c.requires.searchable, ((omega (arith, c.if-rest-eq0.false), omega (arith, c.requires.rest_lt_walk_atoms)), (c.requires.rest_bound, omega (arith, c.requires.rest_bound_2)))))

pub visit-returns : goal.visit-returns
visit-returns t c =
    record {
      told_by = visit_open _ (better_rises _ _) _ _ _ _ _ _ (sym c.may_be.ensures ∙ c.if-not-may_be.false) (sym c.closes.ensures ∙ c.if-closes.false) c.descend.ensures.told_by;
      same_search = c.descend.ensures.same_search;
    }
