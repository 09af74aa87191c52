use mathlib.Core.Path.{refl}
use Prim.Native.Nat.{◌-◌}
use Rattle.descent.proofs.Loops.{class_found, class_more, class_none, classes_agree}
use borrow.Author.Rules.{rules}
use Rattle.descent.proofs.search.spares.Goals as goal

pub loop-i-init : goal.loop-i-init
loop-i-init c = (search rules, refl)

pub returns-then-a-of : goal.returns-then-a-of
returns-then-a-of c = class_found _ _ _ c.loop-i.i c.requires.words c.loop-i.invariant.1 c.loop-i-test.true c.if-a-of.true

pub returns-then-set-of-eq0 : goal.returns-then-set-of-eq0
returns-then-set-of-eq0 c = classes_agree _ _ _ c.requires c.if-set-of-eq0.true

pub loop-i-preserved : goal.loop-i-preserved
loop-i-preserved c = (search rules, class_more _ _ _ c.loop-i.i c.requires.words c.loop-i.invariant.1 c.loop-i-test.true c.if-a-of.false)

pub returns : goal.returns
returns c = class_none _ _ _ c.loop-i.i c.requires.words c.loop-i.invariant.1 c.loop-i-test.false
