use native.Mathlib.Omega.{arith}
use Rattle.output.proofs.Emitting.{same_length as same-length-of}
use Rattle.condition_rules.proofs.RowRules.{putting, rows_fit, put_again, all_put}
use Rattle.condition_rules.proofs.put_rules.Goals as goal

pub loop-i-init : goal.loop-i-init
loop-i-init c = putting _ _ _ _

pub overflow_add-rules : goal.overflow_add-rules
overflow_add-rules c = omega (arith, (rows_fit c.loop-i.invariant c.loop-i-test.true _ c.put_row-put.ensures).0, c.loop-i.invariant.few_rules, c.requires.1)

pub loop-i-preserved : goal.loop-i-preserved
loop-i-preserved c = put_again c.loop-i.invariant c.loop-i-test.true _ c.put_row-put.ensures

pub shape_of-words : goal.shape_of-words
shape_of-words c = same-length-of c.loop-i.invariant.written

pub returns : goal.returns
returns c = all_put c.loop-i.invariant c.loop-i-test.false
