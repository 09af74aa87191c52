use native.Mathlib.Omega.{arith}
use mathlib.Core.Path.{◌∙◌}
use Rattle.descent.proofs.Terms.{tables_stay, searchable, told_asked}
use Rattle.descent.proofs.SameSearches.{tables_still}
use Rattle.descent.proofs.VerdictsTold.{told_yes, told_past, preferred_told}
use Rattle.descent.proofs.verdicts.preferred_search.Goals as goal

pub search-number-requires : goal.search-number-requires
search-number-requires c =
    record {
      searchable = searchable _ _ _ _ _ _ c.set_terms.ensures c.requires.has_tables (omega (arith, c.requires.budget_le_budget_limit));
      atoms_le_walk_atoms = c.requires.atoms_le_walk_atoms;
    }

pub returns-then-number-budget : goal.returns-then-number-budget
returns-then-number-budget c =
    record {
      value = preferred_told _ _ _ _ _ _ _ c.all_of-all.ensures _ _ (told_yes _ (told_asked _ _ _ _ _ _ c.set_terms.ensures c.requires.has_tables _ c.search-number.ensures.told_by) c.requires.budget_le_budget_limit c.if-number-budget.true);
      has_tables_2 = tables_still c.set_terms.new.plan c.search-number.new.plan c.search-number.ensures.same_search c.args.plan.now (tables_stay _ _ _ _ _ _ c.set_terms.ensures c.requires.has_tables);
    }

pub returns : goal.returns
returns c =
    record {
      value = preferred_told _ _ _ _ _ _ _ c.all_of-all.ensures _ _ (c.past_budget.ensures ∙ told_past _ (told_asked _ _ _ _ _ _ c.set_terms.ensures c.requires.has_tables _ c.search-number.ensures.told_by) c.requires.budget_le_budget_limit c.if-number-budget.false);
      has_tables_2 = tables_still c.set_terms.new.plan c.search-number.new.plan c.search-number.ensures.same_search c.args.plan.now (tables_stay _ _ _ _ _ _ c.set_terms.ensures c.requires.has_tables);
    }
