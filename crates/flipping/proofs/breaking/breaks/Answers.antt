use Rattle.flipping.proofs.RuleBroken.{begins, ended, atom_below, again}
use native.Mathlib.Omega.{arith}
use Rattle.flipping.proofs.breaking.breaks.Goals as goal

pub loop-i-init : goal.loop-i-init
loop-i-init c = begins c.args.words.now c.args.set c.requires

pub bounds-words-i : goal.bounds-words-i
bounds-words-i c = omega (arith, c.loop-i-test.true, c.loop-i.invariant.ends)

pub overflow_cast-place : goal.overflow_cast-place
overflow_cast-place c = omega (arith, atom_below c.loop-i.invariant c.loop-i-test.true)

pub overflow_shr-odd : goal.overflow_shr-odd
overflow_shr-odd c = omega (arith, atom_below c.loop-i.invariant c.loop-i-test.true)

pub loop-i-preserved : goal.loop-i-preserved
loop-i-preserved c = again c.loop-i.invariant c.loop-i-test.true c.in_body.ensures

pub returns : goal.returns
returns c = ended c.loop-i.invariant c.loop-i-test.false
