use mathlib.Core.Path.{refl}
use Prim.Native.Nat.{◌-◌}
use native.Mathlib.Omega.{arith}
use Rattle.descent.proofs.Loops.{broken_found, broken_more, broken_none}
use borrow.Author.Rules.{rules}
use Rattle.descent.proofs.search.breaks.Goals as goal

pub loop-i-init : goal.loop-i-init
loop-i-init c = (c.requires.from_value.0, refl)

pub is_broken-requires : goal.is_broken-requires
is_broken-requires c = omega (arith, c.loop-i-test.true, c.requires.to_le_place_limit, c.requires.from_value)

pub is_broken-requires-in-loop-i : goal.is_broken-requires-in-loop-i
is_broken-requires-in-loop-i c = omega (arith, c.loop-i-test.true, c.loop-i.invariant.0, c.requires.to_le_place_limit, c.requires.from_value)

pub returns-then-is_broken : goal.returns-then-is_broken
returns-then-is_broken c = broken_found _ _ _ _ _ c.loop-i.i c.loop-i.invariant.1 c.loop-i-test.true c.loop-i.invariant.0 c.requires.from_value.1 c.is_broken.ensures c.is_broken-in-loop-i.ensures c.if-is_broken.true

pub loop-i-preserved : goal.loop-i-preserved
loop-i-preserved c = (search rules, broken_more _ _ _ _ _ c.loop-i.i c.loop-i.invariant.1 c.loop-i-test.true c.loop-i.invariant.0 c.requires.from_value.1 c.is_broken.ensures c.is_broken-in-loop-i.ensures c.if-is_broken.false)

pub returns : goal.returns
returns c = broken_none _ _ _ _ _ c.loop-i.i c.loop-i.invariant.1 c.loop-i-test.false
