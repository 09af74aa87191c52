use mathlib.Core.Path.{refl, sym, ◌∙◌}
use native.Mathlib.Omega.{arith}
use Rattle.descent.proofs.Loops.{better_found, better_not}
use Rattle.descent.proofs.SameSearches.{found_put}
use Rattle.descent.proofs.search.test_set.Goals as goal

pub spares-requires : goal.spares-requires
spares-requires c = c.requires.searchable.tables

pub overflow_add-result : goal.overflow_add-result
overflow_add-result c = omega (arith, c.requires.searchable.budget_small, c.requires.units_bound)

pub returns-then-spares : goal.returns-then-spares
returns-then-spares c =
    let r = found_put _ _ _ _ _ c.args.plan.now c.requires.searchable.tables.words (better_found _ _ _ _ _ _ (omega (arith, c.requires.searchable.budget_small)) (sym c.spares.ensures ∙ c.if-spares.true)) in
    record {
      told_by = r.0;
      same_search = r.1;
    }

pub returns : goal.returns
returns c =
    record {
      told_by = better_not _ _ _ _ _ _ (omega (arith, c.requires.searchable.budget_small, c.requires.units_bound)) (sym c.spares.ensures ∙ c.if-spares.false);
      same_search = refl;
    }
