use Rattle.tidying.proofs.TidyLoop.{begins, here, again, ended}
use native.Mathlib.Omega.{arith}
use Rattle.tidying.proofs.rule_lists.tidy_rules.Goals as goal

pub loop-i-init : goal.loop-i-init
loop-i-init c = begins _ _ c.requires.0

pub rule_size-size-requires : goal.rule_size-size-requires
rule_size-size-requires c = (here c.loop-i.invariant c.loop-i-test.true).inside

pub tidy_rule-requires : goal.tidy_rule-requires
tidy_rule-requires c = (here c.loop-i.invariant c.loop-i-test.true, omega arith)

pub loop-i-preserved : goal.loop-i-preserved
loop-i-preserved c = again c.loop-i.invariant c.loop-i-test.true c.rule_size-size.ensures c.tidy_rule.ensures

pub returns : goal.returns
returns c = ended c.loop-i.invariant c.loop-i-test.false
