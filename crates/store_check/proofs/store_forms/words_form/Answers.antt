use mathlib.Core.Path.{refl}
use Rattle.stores.proofs.Climbing.{ended, wrong_role, falls, climbs}
use Rattle.store_check.proofs.store_forms.words_form.Goals as goal

pub loop-word-init : goal.loop-word-init
loop-word-init c = record { rest = refl }

pub returns-then-not-role_form : goal.returns-then-not-role_form
returns-then-not-role_form c = wrong_role c.loop-word.invariant c.loop-word-test.true c.role_of.ensures c.role_form.ensures c.if-not-role_form.true

pub returns-then-word-before : goal.returns-then-word-before
returns-then-word-before c = falls c.loop-word.invariant c.loop-word-test.true c.role_of.ensures c.role_form.ensures c.if-not-role_form.false c.if-word-before.true

pub loop-word-preserved : goal.loop-word-preserved
loop-word-preserved c = climbs c.loop-word.invariant c.loop-word-test.true c.role_of.ensures c.role_form.ensures c.if-not-role_form.false c.if-word-before.false

pub returns : goal.returns
returns c = ended c.loop-word.invariant c.loop-word-test.false
