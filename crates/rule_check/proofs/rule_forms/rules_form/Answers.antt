use Prim.Native.Nat.{◌-◌}
use mathlib.Core.Path.{◌∙◌}
use Rattle.stores.proofs.RulePlace.{first, ready, stops, goes_on, all_passed}
use Rattle.rule_check.proofs.rule_forms.rules_form.Goals as goal

pub loop-i-init : goal.loop-i-init
loop-i-init c = first _ _ _ _ _ _ c.requires

pub rule_form-requires : goal.rule_form-requires
rule_form-requires c = ready c.loop-i.invariant c.loop-i-test.true

pub shape_of-marks-in_default : goal.shape_of-marks-in_default
shape_of-marks-in_default c = c.rule_form.auto.marks ∙ c.loop-i.invariant.same_length

pub returns-in_default : goal.returns-in_default
returns-in_default c = stops c.loop-i.invariant c.loop-i-test.true c.rule_form.ensures.0 c.in_default.is

pub loop-i-preserved : goal.loop-i-preserved
loop-i-preserved c = goes_on c.loop-i.invariant c.loop-i-test.true c.rule_form.ensures.0 c.in-Some.is c.rule_form.ensures.1 c.rule_form.auto.marks

pub returns : goal.returns
returns c = all_passed c.loop-i.invariant c.loop-i-test.false
