use mathlib.Core.Path.{refl, ◌∙◌}
use Rattle.descent.proofs.VerdictsTold.{one_class_lem}
use Rattle.stable_verdict.proofs.stable.search_sorted.Goals as goal

pub fill_tables-requires : goal.fill_tables-requires
fill_tables-requires c =
    record {
      want_len = c.requires.want_len;
      care_len_bound = c.requires.care_len_bound;
      all = c.requires.all;
      classes_len = refl;
      plan_value = refl;
    }

pub stable_search-requires : goal.stable_search-requires
stable_search-requires c =
    record {
      has_tables = record { words = c.fill_tables.ensures.words; united = c.fill_tables.ensures.united; bounded = c.fill_tables.ensures.groups.bounded; paired = c.fill_tables.ensures.groups.paired };
      plan_value = c.fill_tables.ensures.classes_are ∙ one_class_lem _ _ c.all_of.ensures;
      budget_le_budget_limit = c.requires.budget_le_budget_limit;
      atoms_le_walk_atoms = c.requires.atoms_le_walk_atoms;
    }
