use native.Mathlib.Omega.{arith}
use Rattle.masks.proofs.RulesFill.{fill_begins, fill_rule, fill_place, fill_room, fill_more, fill_ends}
use Rattle.masks.proofs.masks.fill_rules.Goals as goal

pub loop-j-init : goal.loop-j-init
loop-j-init c = fill_begins _ _ _ _ _ c.requires.stored_rules

pub offset_bounds-words-from : goal.offset_bounds-words-from
offset_bounds-words-from c = omega (arith, fill_place _ _ _ _ _ _ _ _ _ c.loop-j.invariant c.loop-j-test.true)

pub slice_bounds-rule_size-count : goal.slice_bounds-rule_size-count
slice_bounds-rule_size-count c = omega (arith, fill_place _ _ _ _ _ _ _ _ _ c.loop-j.invariant c.loop-j-test.true)

pub slice_bounds-rule_size-start : goal.slice_bounds-rule_size-start
slice_bounds-rule_size-start c = omega (arith, fill_place _ _ _ _ _ _ _ _ _ c.loop-j.invariant c.loop-j-test.true)

pub rule_size-size-requires : goal.rule_size-size-requires
rule_size-size-requires c = (fill_rule _ _ _ _ _ _ _ _ _ c.loop-j.invariant c.loop-j-test.true).inside

pub offset_bounds-words-from-in-loop-j : goal.offset_bounds-words-from-in-loop-j
offset_bounds-words-from-in-loop-j c = omega (arith, fill_place _ _ _ _ _ _ _ _ _ c.loop-j.invariant c.loop-j-test.true)

pub slice_bounds-read_rule-count : goal.slice_bounds-read_rule-count
slice_bounds-read_rule-count c = omega (arith, fill_place _ _ _ _ _ _ _ _ _ c.loop-j.invariant c.loop-j-test.true)

pub slice_bounds-read_rule-start : goal.slice_bounds-read_rule-start
slice_bounds-read_rule-start c = omega (arith, fill_place _ _ _ _ _ _ _ _ _ c.loop-j.invariant c.loop-j-test.true)

pub read_rule-rule-requires : goal.read_rule-rule-requires
read_rule-rule-requires c =
    record {
      n_le_walk_atoms = c.requires.n_le_walk_atoms;
      stored_rule = fill_rule _ _ _ _ _ _ _ _ _ c.loop-j.invariant c.loop-j-test.true;
    }

pub bounds-care-j : goal.bounds-care-j
bounds-care-j c = (fill_room _ _ _ _ _ _ _ _ _ c.loop-j.invariant c.loop-j-test.true c.requires.rules_in_bounds).0

pub bounds-want-j : goal.bounds-want-j
bounds-want-j c = (fill_room _ _ _ _ _ _ _ _ _ c.loop-j.invariant c.loop-j-test.true c.requires.rules_in_bounds).1

pub overflow_add-from : goal.overflow_add-from
overflow_add-from c = omega (arith, fill_place _ _ _ _ _ _ _ _ _ c.loop-j.invariant c.loop-j-test.true, c.rule_size-size.ensures)

pub loop-j-preserved : goal.loop-j-preserved
loop-j-preserved c = fill_more _ _ _ _ _ _ _ _ _ c.loop-j.invariant c.loop-j-test.true c.requires.rules_in_bounds _ _ _ c.rule_size-size.ensures c.read_rule-rule.ensures

pub returns : goal.returns
returns c =
    let r = fill_ends _ _ _ _ _ _ _ _ _ c.loop-j.invariant c.loop-j-test.false in
    record {
      care_after = r.0;
      want_after = r.1;
    }
