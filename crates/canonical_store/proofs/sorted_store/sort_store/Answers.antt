use Rattle.canonical_store.proofs.SortedStores.{header, listed, stored, in_order_lem}
use native.Mathlib.Omega.{arith}
use borrow.Author.Rules.{rules}
use Rattle.canonical_store.proofs.sorted_store.sort_store.Goals as goal

pub rules_start-start-requires : goal.rules_start-start-requires
rules_start-start-requires c = omega (arith, (header c.requires.0).inside)

pub bounds-words-1 : goal.bounds-words-1
bounds-words-1 c = omega (arith, (header c.requires.0).inside)

pub offset_bounds-words-start : goal.offset_bounds-words-start
offset_bounds-words-start c = omega (arith, (header c.requires.0).inside, (header c.requires.0).short, c.rules_start-start.ensures)

pub slice_bounds-tidy_rules-count : goal.slice_bounds-tidy_rules-count
slice_bounds-tidy_rules-count c = omega (arith, (header c.requires.0).inside, c.rules_start-start.ensures)

pub slice_bounds-tidy_rules-start : goal.slice_bounds-tidy_rules-start
slice_bounds-tidy_rules-start c = omega (arith, (header c.requires.0).inside, c.rules_start-start.ensures)

pub slice_bounds-tidy_rules-end : goal.slice_bounds-tidy_rules-end
slice_bounds-tidy_rules-end c = omega (arith, (header c.requires.0).inside, c.rules_start-start.ensures)

pub tidy_rules-requires : goal.tidy_rules-requires
tidy_rules-requires c = (listed c.requires.0 c.rules_start-start.ensures c.requires.2, search rules)

pub sort_rules-requires : goal.sort_rules-requires
sort_rules-requires c = ((stored c.requires.0 c.rules_start-start.ensures c.requires.2 _ c.tidy_rules.ensures).0, (stored c.requires.0 c.rules_start-start.ensures c.requires.2 _ c.tidy_rules.ensures).1, c.requires.3, (stored c.requires.0 c.rules_start-start.ensures c.requires.2 _ c.tidy_rules.ensures).2)

pub returns : goal.returns
returns c = in_order_lem c.requires.0 c.rules_start-start.ensures c.requires.2 _ c.tidy_rules.ensures _ (search rules) c.sort_rules.ensures
