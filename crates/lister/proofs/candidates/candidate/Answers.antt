use mathlib.Core.Path.{refl}
use native.Mathlib.Omega.{arith}
use Rattle.descent.specs.Verdicts.{preferred_m}
use Rattle.lister.proofs.FromStart.{needs_walked, is_late_lem, state_units, beaten_units, is_state, is_broken_lem, is_beaten, is_spent, is_refused}
use Rattle.lister.proofs.candidates.candidate.Goals as goal

pub returns-then-terms-units : goal.returns-then-terms-units
returns-then-terms-units c =
    record {
      told_by = is_late_lem (preferred_m _ _ _ _ _ _ _) _ _ _ _ c.if-terms-units.true (omega (arith, c.args.terms.now.budget_le_budget_limit, c.requires.units_bound));
      has_tables_2 = (c.requires.has_tables, refl);
    }

pub preferred_search-verdict-requires : goal.preferred_search-verdict-requires
preferred_search-verdict-requires c =
    record {
      has_tables = c.requires.has_tables;
      budget_le_budget_limit = omega (arith, c.args.terms.now.budget_le_budget_limit);
      atoms_le_walk_atoms = c.args.terms.now.atoms_le_walk_atoms;
    }

pub overflow_add-result : goal.overflow_add-result
overflow_add-result c = omega (arith, state_units _ (needs_walked _ _ _ _ _ _ _) c.if-terms-units.false c.args.terms.now.budget_le_budget_limit c.preferred_search-verdict.ensures.value c.in-Yes.is, c.args.terms.now.budget_le_budget_limit)

pub overflow_add-result-in-Yes : goal.overflow_add-result-in-Yes
overflow_add-result-in-Yes c = omega (arith, state_units _ (needs_walked _ _ _ _ _ _ _) c.if-terms-units.false c.args.terms.now.budget_le_budget_limit c.preferred_search-verdict.ensures.value c.in-Yes.is, c.args.terms.now.budget_le_budget_limit)

pub overflow_add-result-in-Beaten : goal.overflow_add-result-in-Beaten
overflow_add-result-in-Beaten c = omega (arith, beaten_units _ (needs_walked _ _ _ _ _ _ _) c.if-terms-units.false c.args.terms.now.budget_le_budget_limit c.preferred_search-verdict.ensures.value c.in-Beaten.is, c.args.terms.now.budget_le_budget_limit)

pub returns-in-Yes : goal.returns-in-Yes
returns-in-Yes c =
    record {
      told_by = is_state _ (needs_walked _ _ _ _ _ _ _) c.if-terms-units.false c.args.terms.now.budget_le_budget_limit c.preferred_search-verdict.ensures.value _ c.in-Yes.is;
      has_tables_2 = c.preferred_search-verdict.ensures.has_tables_2;
    }

pub returns-in-Broken : goal.returns-in-Broken
returns-in-Broken c =
    record {
      told_by = is_broken_lem _ (needs_walked _ _ _ _ _ _ _) c.if-terms-units.false c.args.terms.now.budget_le_budget_limit c.preferred_search-verdict.ensures.value _ c.in-Broken.is;
      has_tables_2 = c.preferred_search-verdict.ensures.has_tables_2;
    }

pub returns-in-Beaten : goal.returns-in-Beaten
returns-in-Beaten c =
    record {
      told_by = is_beaten _ (needs_walked _ _ _ _ _ _ _) c.if-terms-units.false c.args.terms.now.budget_le_budget_limit c.preferred_search-verdict.ensures.value _ c.in-Beaten.is;
      has_tables_2 = c.preferred_search-verdict.ensures.has_tables_2;
    }

pub returns-in-Spent : goal.returns-in-Spent
returns-in-Spent c =
    record {
      told_by = is_spent _ (needs_walked _ _ _ _ _ _ _) c.if-terms-units.false c.args.terms.now.budget_le_budget_limit c.preferred_search-verdict.ensures.value _ c.in-Spent.is;
      has_tables_2 = c.preferred_search-verdict.ensures.has_tables_2;
    }

pub returns-in-Refused : goal.returns-in-Refused
returns-in-Refused c =
    record {
      told_by = is_refused _ (needs_walked _ _ _ _ _ _ _) c.if-terms-units.false c.args.terms.now.budget_le_budget_limit c.preferred_search-verdict.ensures.value _ c.in-Refused.is;
      has_tables_2 = c.preferred_search-verdict.ensures.has_tables_2;
    }
