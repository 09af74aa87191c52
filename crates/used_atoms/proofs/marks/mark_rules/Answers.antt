use Rattle.used_atoms.proofs.Marking.{rules_end, rule_stored, place_inside, rules_again}
use native.Mathlib.Omega.{arith}
use Rattle.used_atoms.proofs.marks.mark_rules.Goals as goal

pub rule_size-size-requires : goal.rule_size-size-requires
rule_size-size-requires c = (rule_stored c.loop.invariant c.loop-test.true).inside

pub offset_bounds-words-from-in-loop : goal.offset_bounds-words-from-in-loop
offset_bounds-words-from-in-loop c = omega (arith, place_inside c.loop.invariant c.loop-test.true)

pub slice_bounds-mark_rule-count : goal.slice_bounds-mark_rule-count
slice_bounds-mark_rule-count c = omega (arith, place_inside c.loop.invariant c.loop-test.true)

pub slice_bounds-mark_rule-start : goal.slice_bounds-mark_rule-start
slice_bounds-mark_rule-start c = omega (arith, place_inside c.loop.invariant c.loop-test.true)

pub mark_rule-requires : goal.mark_rule-requires
mark_rule-requires c = rule_stored c.loop.invariant c.loop-test.true

pub overflow_add-from : goal.overflow_add-from
overflow_add-from c = omega (arith, place_inside c.loop.invariant c.loop-test.true, c.rule_size-size.ensures)

pub loop-preserved : goal.loop-preserved
loop-preserved c = rules_again c.loop.invariant c.loop-test.true c.rule_size-size.ensures c.mark_rule.ensures

pub returns : goal.returns
returns c = rules_end c.loop.invariant c.loop-test.false
