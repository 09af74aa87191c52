use mathlib.Core.Path.{sym, ap, ◌∙◌}
use mathlib.Core.Bool.{false}
use lib.ListN.{length, length-set, length-replicate}
use Rattle.kinds.specs.Limits.{rule_limit}
use Rattle.kinds.specs.declared.limits.Kind.TheVariants.{Plain}
use native.Mathlib.Omega.{arith}
use Rattle.stores.proofs.StoredRules.{stored_more}
use Rattle.masks.proofs.RulesFill.{fill_rule, fill_place}
use Rattle.stable_verdict.proofs.ReductFill.{reduct_begins, reduct_keeps, reduct_drops, reduct_ends}
use borrow.Author.Rules.{rules}
use Rattle.stable_verdict.proofs.reduct.fill_reduct.Goals as goal
use Rattle.stable_verdict.proofs.reduct.fill_reduct.Goals.{else-marks-j, then-marks-j}

pub loop-j-init : goal.loop-j-init
loop-j-init c = reduct_begins _ _ _ _ _ _ _ c.requires.stored_rules c.requires.rules_bound c.requires.marks_value c.requires.rules_in_bounds

pub offset_bounds-words-from : goal.offset_bounds-words-from
offset_bounds-words-from c = omega (arith, fill_place _ _ _ _ _ _ _ _ _ c.loop-j.invariant.walk c.loop-j-test.true)

pub slice_bounds-rule_size-count : goal.slice_bounds-rule_size-count
slice_bounds-rule_size-count c = omega (arith, fill_place _ _ _ _ _ _ _ _ _ c.loop-j.invariant.walk c.loop-j-test.true)

pub slice_bounds-rule_size-start : goal.slice_bounds-rule_size-start
slice_bounds-rule_size-start c = omega (arith, fill_place _ _ _ _ _ _ _ _ _ c.loop-j.invariant.walk c.loop-j-test.true)

pub rule_size-size-requires : goal.rule_size-size-requires
rule_size-size-requires c = (fill_rule _ _ _ _ _ _ _ _ _ c.loop-j.invariant.walk c.loop-j-test.true).inside

pub offset_bounds-words-from-in-loop-j : goal.offset_bounds-words-from-in-loop-j
offset_bounds-words-from-in-loop-j c = omega (arith, fill_place _ _ _ _ _ _ _ _ _ c.loop-j.invariant.walk c.loop-j-test.true)

pub slice_bounds-is_kept-count : goal.slice_bounds-is_kept-count
slice_bounds-is_kept-count c = omega (arith, fill_place _ _ _ _ _ _ _ _ _ c.loop-j.invariant.walk c.loop-j-test.true)

pub slice_bounds-is_kept-start : goal.slice_bounds-is_kept-start
slice_bounds-is_kept-start c = omega (arith, fill_place _ _ _ _ _ _ _ _ _ c.loop-j.invariant.walk c.loop-j-test.true)

pub is_kept-requires : goal.is_kept-requires
is_kept-requires c = stored_more c.requires.n_le_walk_atoms (fill_rule _ _ _ _ _ _ _ _ _ c.loop-j.invariant.walk c.loop-j-test.true)

pub bounds-marks-j-in-loop-j : goal.bounds-marks-j-in-loop-j
bounds-marks-j-in-loop-j c = simp length-set (omega arith)

pub offset_bounds-words-from-then-marks-j : goal.offset_bounds-words-from-then-marks-j
offset_bounds-words-from-then-marks-j c = omega (arith, fill_place _ _ _ _ _ _ _ _ _ c.loop-j.invariant.walk c.loop-j-test.true)

pub slice_bounds-put_rule-count : goal.slice_bounds-put_rule-count
slice_bounds-put_rule-count c = omega (arith, fill_place _ _ _ _ _ _ _ _ _ c.loop-j.invariant.walk c.loop-j-test.true)

pub slice_bounds-put_rule-start : goal.slice_bounds-put_rule-start
slice_bounds-put_rule-start c = omega (arith, fill_place _ _ _ _ _ _ _ _ _ c.loop-j.invariant.walk c.loop-j-test.true)

pub put_rule-requires : goal.put_rule-requires
put_rule-requires c =
    record {
      n_le_walk_atoms = c.requires.n_le_walk_atoms;
      stored_rule = fill_rule _ _ _ _ _ _ _ _ _ c.loop-j.invariant.walk c.loop-j-test.true;
      at_in_bounds = (search rules, search rules);
    }

pub overflow_add-from : goal.overflow_add-from
overflow_add-from c = omega (arith, fill_place _ _ _ _ _ _ _ _ _ c.loop-j.invariant.walk c.loop-j-test.true, c.rule_size-size.ensures)

pub loop-j-preserved : goal.loop-j-preserved
loop-j-preserved c = elim c.if-marks-j.branch [ then-marks-j w ↦ reduct_keeps _ _ _ _ _ _ _ _ _ _ _ _ c.loop-j.invariant c.loop-j-test.true _ c.is_kept.ensures _ c.rule_size-size.ensures w.if-marks-j.true (w.care-is ∙ w.put_rule.ensures.care_after) (w.want-is ∙ w.put_rule.ensures.want_after) w.kept-is | else-marks-j w ↦ reduct_drops _ _ _ _ _ _ _ _ _ _ _ _ c.loop-j.invariant c.loop-j-test.true _ c.is_kept.ensures _ c.rule_size-size.ensures w.if-marks-j.false w.care-is w.want-is w.kept-is ]

pub shape_of-marks : goal.shape_of-marks
shape_of-marks c = c.loop-j.invariant.mark_room.1 ∙ sym (ap length c.requires.marks_value ∙ length-replicate (rule_limit Plain) false)

pub returns : goal.returns
returns c =
    let r = reduct_ends _ _ _ _ _ _ _ _ _ _ _ _ c.loop-j.invariant c.loop-j-test.false in
    record {
      marks_after = r.0;
      care_after = r.1.0;
      want_after = r.1.1.0;
      value = r.1.1.1;
    }
