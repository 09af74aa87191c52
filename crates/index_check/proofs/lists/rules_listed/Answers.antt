use Rattle.index_check.proofs.Passing.{pass_begin, pass_end, rule_tables, not_listed, pass_again, start_inside}
use Rattle.rule_index.proofs.RuleWalk.{rule_inside, place_inside}
use native.Mathlib.Omega.{arith}
use mathlib.Core.Path.{ap}
use mathlib.Core.Bool.{not}
use Rattle.index_check.proofs.lists.rules_listed.Goals as goal

pub loop-i-init : goal.loop-i-init
loop-i-init c = pass_begin c.requires.stored_rules c.requires.next_in_bounds

pub offset_bounds-words-from : goal.offset_bounds-words-from
offset_bounds-words-from c = omega (arith, place_inside c.loop-i.invariant.walk c.loop-i-test.true)

pub slice_bounds-rule_size-count : goal.slice_bounds-rule_size-count
slice_bounds-rule_size-count c = omega (arith, place_inside c.loop-i.invariant.walk c.loop-i-test.true)

pub slice_bounds-rule_size-start : goal.slice_bounds-rule_size-start
slice_bounds-rule_size-start c = omega (arith, place_inside c.loop-i.invariant.walk c.loop-i-test.true)

pub rule_size-size-requires : goal.rule_size-size-requires
rule_size-size-requires c = rule_inside c.loop-i.invariant.walk c.loop-i-test.true

pub overflow_add-atoms : goal.overflow_add-atoms
overflow_add-atoms c = omega (arith, place_inside c.loop-i.invariant.walk c.loop-i-test.true)

pub overflow_add-end : goal.overflow_add-end
overflow_add-end c = omega (arith, place_inside c.loop-i.invariant.walk c.loop-i-test.true, c.rule_size-size.ensures)

pub offset_bounds-words-atoms : goal.offset_bounds-words-atoms
offset_bounds-words-atoms c = omega (arith, place_inside c.loop-i.invariant.walk c.loop-i-test.true)

pub slice_bounds-rule_listed-count : goal.slice_bounds-rule_listed-count
slice_bounds-rule_listed-count c = omega (arith, c.rule_size-size.ensures)

pub slice_bounds-rule_listed-start : goal.slice_bounds-rule_listed-start
slice_bounds-rule_listed-start c = omega (arith, c.rule_size-size.ensures)

pub slice_bounds-rule_listed-end : goal.slice_bounds-rule_listed-end
slice_bounds-rule_listed-end c = omega (arith, place_inside c.loop-i.invariant.walk c.loop-i-test.true, c.rule_size-size.ensures)

pub overflow_cast-i : goal.overflow_cast-i
overflow_cast-i c = omega (arith, c.loop-i.invariant.few)

pub rule_listed-listed-requires : goal.rule_listed-listed-requires
rule_listed-listed-requires c =
    record {
      all = rule_tables c.loop-i.invariant c.loop-i-test.true c.rule_size-size.ensures;
      rule_bound = (omega (arith, c.loop-i.invariant.few), c.loop-i.invariant.below);
    }

pub shape_of-next-then-not-listed : goal.shape_of-next-then-not-listed
shape_of-next-then-not-listed c = omega (arith, c.next-1.given, c.loop-i.invariant.next_long)

pub shape_of-marks-then-not-listed : goal.shape_of-marks-then-not-listed
shape_of-marks-then-not-listed c = omega (arith, c.marks-1.given, c.loop-i.invariant.marks_long)

pub shape_of-places-then-not-listed : goal.shape_of-places-then-not-listed
shape_of-places-then-not-listed c = c.loop-i.invariant.starts_long

pub returns-then-not-listed : goal.returns-then-not-listed
returns-then-not-listed c =
    let r = not_listed c.loop-i.invariant c.loop-i-test.true c.rule_size-size.ensures c.rule_listed-listed.ensures.value (ap not c.if-not-listed.true) in
    record {
      value = r.0;
      read = r.1.0;
      placed = r.1.1;
    }

pub offset_bounds-places-i : goal.offset_bounds-places-i
offset_bounds-places-i c = omega (arith, start_inside c.loop-i.invariant c.loop-i-test.true)

pub bounds-places-i : goal.bounds-places-i
bounds-places-i c = start_inside c.loop-i.invariant c.loop-i-test.true

pub loop-i-preserved : goal.loop-i-preserved
loop-i-preserved c = pass_again c.loop-i.invariant c.loop-i-test.true c.rule_size-size.ensures c.rule_listed-listed.ensures.value (ap not c.if-not-listed.false) c.rule_listed-listed.ensures.raised c.rule_listed-listed.ensures.below c.marks-1.given

pub shape_of-next : goal.shape_of-next
shape_of-next c = c.loop-i.invariant.next_long

pub shape_of-marks : goal.shape_of-marks
shape_of-marks c = c.loop-i.invariant.marks_long

pub shape_of-places : goal.shape_of-places
shape_of-places c = c.loop-i.invariant.starts_long

pub returns : goal.returns
returns c =
    let r = pass_end c.loop-i.invariant c.loop-i-test.false in
    record {
      value = r.0;
      read = r.1.0;
      placed = r.1.1;
    }
