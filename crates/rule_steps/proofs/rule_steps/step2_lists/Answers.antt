use Rattle.rule_steps.proofs.Woven.{counted2, heads_fit2, bodies_fit2, split2}
use Rattle.atom_lists.proofs.Splitting.{few_below}
use Rattle.output.proofs.Emitting.{range_begin}
use native.Mathlib.Omega.{arith}
use Rattle.rule_steps.proofs.rule_steps.step2_lists.Goals as goal

pub overflow_sub-others : goal.overflow_sub-others
overflow_sub-others c = omega (arith, few_below c.args.minimised c.args.heads.now, c.count_below-head.ensures)

pub overflow_sub-others-2 : goal.overflow_sub-others-2
overflow_sub-others-2 c = omega (arith, few_below c.args.minimised c.args.bodies.now, c.count_below-body.ensures)

pub emit-first-requires : goal.emit-first-requires
emit-first-requires c = range_begin c.requires.2 (counted2 _ _ c.args.heads.now c.args.bodies.now c.count_below-head.ensures c.count_below-body.ensures)

pub overflow_sub-fourth : goal.overflow_sub-fourth
overflow_sub-fourth c = omega (arith, few_below c.args.minimised c.args.heads.now, c.count_below-head.ensures)

pub emit_split-requires : goal.emit_split-requires
emit_split-requires c = heads_fit2 _ _ c.args.heads.now c.args.bodies.now c.count_below-head.ensures c.count_below-body.ensures c.requires.0 c.requires.1 c.requires.2 c.emit-first.ensures

pub emit_split-requires-2 : goal.emit_split-requires-2
emit_split-requires-2 c = bodies_fit2 _ _ c.args.heads.now c.args.bodies.now c.count_below-head.ensures c.count_below-body.ensures c.requires.0 c.requires.1 c.requires.2 c.emit-first.ensures

pub overflow_sub-result : goal.overflow_sub-result
overflow_sub-result c = omega (arith, few_below c.args.minimised c.args.bodies.now, c.count_below-body.ensures)

pub returns : goal.returns
returns c = split2 _ _ c.args.heads.now c.args.bodies.now c.count_below-head.ensures c.count_below-body.ensures c.requires.0 c.requires.1 c.requires.2 c.emit-first.ensures c.emit_split.ensures c.emit_split-2.ensures
