use Rattle.rule_steps.proofs.Woven.{counted3, push_fits3, bodies_fit3, heads_fit3, split3}
use Rattle.atom_lists.proofs.Splitting.{few_below}
use Rattle.output.proofs.Emitting.{range_begin}
use native.Mathlib.Omega.{arith}
use Rattle.rule_steps.proofs.rule_steps.step3_lists.Goals as goal

pub overflow_add-counts : goal.overflow_add-counts
overflow_add-counts c = omega (arith, few_below c.args.unfixed c.args.heads.now, c.count_below-head.ensures, c.requires.0.few_heads)

pub overflow_sub-counts : goal.overflow_sub-counts
overflow_sub-counts c = omega (arith, few_below c.args.unfixed c.args.heads.now, c.count_below-head.ensures)

pub emit-first-requires : goal.emit-first-requires
emit-first-requires c = range_begin c.requires.2 (counted3 _ _ _ c.args.heads.now c.args.bodies.now c.count_below-head.ensures c.count_below-body.ensures)

pub push-second-requires : goal.push-second-requires
push-second-requires c = push_fits3 _ _ _ c.args.heads.now c.args.bodies.now c.count_below-head.ensures c.count_below-body.ensures c.requires.0 c.requires.1 c.requires.2 c.emit-first.ensures

pub overflow_sub-fourth : goal.overflow_sub-fourth
overflow_sub-fourth c = omega (arith, few_below c.args.unfixed c.args.bodies.now, c.count_below-body.ensures)

pub emit_split-requires : goal.emit_split-requires
emit_split-requires c = bodies_fit3 _ _ _ c.args.heads.now c.args.bodies.now c.count_below-head.ensures c.count_below-body.ensures c.requires.0 c.requires.1 c.requires.2 c.emit-first.ensures c.push-second.ensures

pub emit_split-requires-2 : goal.emit_split-requires-2
emit_split-requires-2 c = heads_fit3 _ _ _ c.args.heads.now c.args.bodies.now c.count_below-head.ensures c.count_below-body.ensures c.requires.0 c.requires.1 c.requires.2 c.emit-first.ensures c.push-second.ensures

pub overflow_sub-result : goal.overflow_sub-result
overflow_sub-result c = omega (arith, few_below c.args.unfixed c.args.heads.now, c.count_below-head.ensures)

pub returns : goal.returns
returns c = split3 _ _ _ c.args.heads.now c.args.bodies.now c.count_below-head.ensures c.count_below-body.ensures c.requires.0 c.requires.1 c.requires.2 c.emit-first.ensures c.push-second.ensures c.emit_split.ensures c.emit_split-2.ensures
