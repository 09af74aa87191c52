use borrow.Author.Rules.{rules}
use mathlib.Core.Path.{refl}
use Rattle.preferred_verdict.proofs.FilledVerdict.{verdict_sorted}
use Rattle.preferred_verdict.proofs.preferred.search_sorted.Goals as goal

pub fill_tables-requires : goal.fill_tables-requires
fill_tables-requires c =
    record {
      want_len = c.requires.want_len;
      care_len_bound = c.requires.care_len_bound;
      all = c.requires.all;
      classes_len = search rules;
      plan_value = refl;
    }

pub returns : goal.returns
returns c = verdict_sorted c.fill_tables.ensures c.preferred_search.ensures.value
