use Rattle.remaining_stores.proofs.HeldRules.{end_inside}
use Rattle.remaining_stores.proofs.LeftStores.{header_small, classes_there, classes_range, moved_range, rules_there, left_written}
use native.Mathlib.Omega.{arith}
use Rattle.remaining_stores.proofs.remaining.put_left.Goals as goal

pub overflow_add-end : goal.overflow_add-end
overflow_add-end c = omega (arith, end_inside c.requires.0)

pub put_header-headed-requires : goal.put_header-headed-requires
put_header-headed-requires c = let s = header_small c.requires.0 c.requires.1 in (omega (arith, s.0), omega (arith, s.0, s.1), omega (arith, s.2))

pub slice_bounds-put_classes-end : goal.slice_bounds-put_classes-end
slice_bounds-put_classes-end c = omega (arith, end_inside c.requires.0)

pub put_classes-classed-requires : goal.put_classes-classed-requires
put_classes-classed-requires c = (classes_there c.requires.0 c.requires.1, classes_range c.requires.0 c.requires.1 c.put_header-headed.ensures)

pub offset_bounds-words-end : goal.offset_bounds-words-end
offset_bounds-words-end c = omega (arith, end_inside c.requires.0)

pub slice_bounds-put_rules-count : goal.slice_bounds-put_rules-count
slice_bounds-put_rules-count c = omega (arith, end_inside c.requires.0)

pub slice_bounds-put_rules-start : goal.slice_bounds-put_rules-start
slice_bounds-put_rules-start c = omega (arith, end_inside c.requires.0)

pub put_rules-requires : goal.put_rules-requires
put_rules-requires c = (rules_there c.requires.0 c.requires.1, moved_range c.requires.0 c.requires.1 c.put_header-headed.ensures c.put_classes-classed.ensures)

pub returns : goal.returns
returns c = left_written c.requires.0 c.requires.1 c.put_header-headed.ensures c.put_classes-classed.ensures c.put_rules.ensures
