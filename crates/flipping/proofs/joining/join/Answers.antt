use Rattle.flipping.proofs.JoinLoop.{begins, not_before, reached, ended, put_ready, goes_past}
use Rattle.stores.proofs.RuleStores.{rules_count}
use Rattle.output.proofs.Emitting.{length_kept}
use native.Mathlib.Omega.{arith}
use Rattle.flipping.proofs.joining.join.Goals as goal

pub loop-rule-init : goal.loop-rule-init
loop-rule-init c = reached (begins (rules_count _ _) c.requires.1 c.requires.2 c.requires.3) c.first_of-rule.ensures

pub is_kept-kept-requires : goal.is_kept-kept-requires
is_kept-kept-requires c = (c.requires.0, c.loop-rule-test.true)

pub put-at-requires : goal.put-at-requires
put-at-requires c = put_ready c.loop-rule.invariant c.loop-rule-test.true c.is_kept-kept.ensures

pub loop-rule-smaller : goal.loop-rule-smaller
loop-rule-smaller c = omega (arith, not_before (goes_past c.loop-rule.invariant c.loop-rule-test.true c.is_kept-kept.ensures c.put-at.ensures c.past-i.result c.past-j.result c.past-i.ensures c.past-j.ensures) c.first_of-rule-in-loop-rule.ensures, c.loop-rule-test.true)

pub loop-rule-preserved : goal.loop-rule-preserved
loop-rule-preserved c = reached (goes_past c.loop-rule.invariant c.loop-rule-test.true c.is_kept-kept.ensures c.put-at.ensures c.past-i.result c.past-j.result c.past-i.ensures c.past-j.ensures) c.first_of-rule-in-loop-rule.ensures

pub shape_of-out : goal.shape_of-out
shape_of-out c = length_kept c.loop-rule.invariant.here.so

pub returns : goal.returns
returns c = ended c.loop-rule.invariant c.loop-rule-test.false
