use Rattle.remaining_stores.proofs.HeldRules.{end_inside}
use Rattle.remaining_stores.proofs.Filling.{few_atoms, few_number, rules_ready, marks_room, filled, none_out}
use native.Mathlib.Omega.{arith}
use Rattle.remaining_stores.proofs.remaining.deliver_used.Goals as goal

pub overflow_add-end : goal.overflow_add-end
overflow_add-end c = omega (arith, end_inside c.requires.0)

pub offset_bounds-words-end : goal.offset_bounds-words-end
offset_bounds-words-end c = omega (arith, end_inside c.requires.0)

pub slice_bounds-mark_rules-count : goal.slice_bounds-mark_rules-count
slice_bounds-mark_rules-count c = omega (arith, end_inside c.requires.0)

pub slice_bounds-mark_rules-start : goal.slice_bounds-mark_rules-start
slice_bounds-mark_rules-start c = omega (arith, end_inside c.requires.0)

pub mark_rules-requires : goal.mark_rules-requires
mark_rules-requires c = rules_ready c.requires.0 c.requires.1

pub number_atoms-left-requires : goal.number_atoms-left-requires
number_atoms-left-requires c = (marks_room c.requires.0 c.requires.1 c.mark_rules.ensures, few_atoms c.requires.0 c.requires.1, few_number c.requires.0 c.requires.1)

pub returns-then-left-atoms : goal.returns-then-left-atoms
returns-then-left-atoms c = none_out c.requires.0 c.requires.1 c.number_atoms-left.new.numbers c.mark_rules.ensures c.number_atoms-left.auto.numbers c.number_atoms-left.ensures.value c.number_atoms-left.ensures.by_index c.if-left-atoms.true c.deliver_all.ensures

pub deliver_left-requires : goal.deliver_left-requires
deliver_left-requires c = (c.requires.0, filled c.requires.0 c.requires.1 c.number_atoms-left.new.numbers c.mark_rules.ensures c.number_atoms-left.auto.numbers c.number_atoms-left.ensures.value c.number_atoms-left.ensures.by_index)
