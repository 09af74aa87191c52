use Rattle.text.proofs.RuleLoop.{rules_begin, rules_end, rule_stored, place_inside, rule_range, rules_again}
use Rattle.text.specs.Items.{rule_item, rule_items}
use native.Mathlib.Omega.{arith}
use Rattle.text.proofs.rule_lines.emit_rules.Goals as goal

pub loop-init : goal.loop-init
unfolding rule_item rule_items
loop-init c = rules_begin c.requires.0 c.requires.1

pub offset_bounds-words-from : goal.offset_bounds-words-from
offset_bounds-words-from c = omega (arith, place_inside c.loop.invariant c.loop-test.true)

pub slice_bounds-rule_size-count : goal.slice_bounds-rule_size-count
slice_bounds-rule_size-count c = omega (arith, place_inside c.loop.invariant c.loop-test.true)

pub slice_bounds-rule_size-start : goal.slice_bounds-rule_size-start
slice_bounds-rule_size-start c = omega (arith, place_inside c.loop.invariant c.loop-test.true)

pub rule_size-size-requires : goal.rule_size-size-requires
rule_size-size-requires c = (rule_stored c.loop.invariant c.loop-test.true).inside

pub offset_bounds-words-from-in-loop : goal.offset_bounds-words-from-in-loop
offset_bounds-words-from-in-loop c = omega (arith, place_inside c.loop.invariant c.loop-test.true)

pub slice_bounds-emit_rule-count : goal.slice_bounds-emit_rule-count
slice_bounds-emit_rule-count c = omega (arith, place_inside c.loop.invariant c.loop-test.true)

pub slice_bounds-emit_rule-start : goal.slice_bounds-emit_rule-start
slice_bounds-emit_rule-start c = omega (arith, place_inside c.loop.invariant c.loop-test.true)

pub emit_rule-next-requires : goal.emit_rule-next-requires
emit_rule-next-requires c = (rule_stored c.loop.invariant c.loop-test.true, rule_range c.loop.invariant c.loop-test.true)

pub overflow_add-from : goal.overflow_add-from
overflow_add-from c = omega (arith, place_inside c.loop.invariant c.loop-test.true, c.rule_size-size.ensures)

pub loop-preserved : goal.loop-preserved
loop-preserved c = rules_again c.loop.invariant c.loop-test.true c.rule_size-size.ensures c.emit_rule-next.ensures

pub returns : goal.returns
unfolding rule_item rule_items
returns c = rules_end c.loop.invariant c.loop-test.false
