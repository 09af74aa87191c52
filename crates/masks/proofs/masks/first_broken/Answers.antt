use mathlib.Core.Path.{sym}
use native.Mathlib.Nat.{zero-add}
use Rattle.masks.proofs.MaskLoops.{first_none, first_found_lem, first_more}
use native.Mathlib.Omega.{arith}
use Rattle.masks.proofs.masks.first_broken.Goals as goal

pub loop-i-init : goal.loop-i-init
loop-i-init c = sym (zero-add _)

pub returns-then-set-care : goal.returns-then-set-care
returns-then-set-care c = first_found_lem c.args.set c.args.care.now c.args.want.now c.requires c.loop-i.i c.loop-i-test.true c.loop-i.invariant c.if-set-care.true

pub loop-i-preserved : goal.loop-i-preserved
loop-i-preserved c = first_more c.args.set c.args.care.now c.args.want.now c.requires c.loop-i.i c.loop-i-test.true c.loop-i.invariant c.if-set-care.false

pub returns : goal.returns
returns c = first_none c.args.set c.args.care.now c.args.want.now c.requires c.loop-i.i (omega arith) c.loop-i-test.false c.loop-i.invariant
