use Rattle.rule_adding.proofs.RuleFits.{rule_ready, no_rule_more, rule_broken, rule_passed}
use native.Mathlib.Omega.{arith}
use Rattle.rule_adding.proofs.fitting.fits.Goals as goal

pub returns-then-rules-count : goal.returns-then-rules-count
returns-then-rules-count c = no_rule_more c.requires _ (omega (arith, c.rules.ensures, c.if-rules-count.true))

pub rule_form-requires : goal.rule_form-requires
rule_form-requires c = rule_ready c.requires c.args.rule.now

pub returns-in_default : goal.returns-in_default
returns-in_default c = rule_broken c.requires _ (omega (arith, c.rules.ensures, c.if-rules-count.false)) c.rule_form.ensures.0 c.in_default.is

pub returns : goal.returns
returns c = rule_passed c.requires _ (omega (arith, c.rules.ensures, c.if-rules-count.false)) c.rule_form.ensures.0 c.in-Some.is
