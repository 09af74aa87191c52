use Prim.Native.Nat.{zero-le}
use mathlib.Core.Path.{◌∙◌}
use native.Mathlib.Omega.{arith}
use Rattle.name_store.proofs.ByteLoops.{other_length, same_begins, block_same, block_differs, blocks_as_long}
use mathlib.Core.Path.{ap}
use mathlib.Core.Bool.{not}
use Rattle.name_store.proofs.index.same_bytes.Goals as goal

pub returns-then-a-b : goal.returns-then-a-b
returns-then-a-b c = other_length _ _ c.if-a-b.true

pub loop-i-init : goal.loop-i-init
loop-i-init c = same_begins _ _ 0 c.if-a-b.false zero-le

pub overflow_add-to : goal.overflow_add-to
overflow_add-to c = omega (arith, c.loop-i-test.true, c.loop-i.invariant.inside)

pub slice_bounds-same_block-end : goal.slice_bounds-same_block-end
slice_bounds-same_block-end c = omega (arith, c.loop-i-test.true, c.loop-i.invariant.inside)

pub same_block-requires : goal.same_block-requires
same_block-requires c = blocks_as_long c.args.a.now c.args.b.now c.loop-i.i c.loop-i.invariant.long (omega (arith, c.loop-i-test.true, c.loop-i.invariant.inside))

pub returns-then-not-same_block : goal.returns-then-not-same_block
returns-then-not-same_block c = block_differs c.loop-i.invariant (omega (arith, c.loop-i-test.true, c.loop-i.invariant.inside)) c.same_block.ensures (ap not c.if-not-same_block.true)

pub loop-i-smaller : goal.loop-i-smaller
loop-i-smaller c = omega (arith, c.loop-i-test.true, c.loop-i.invariant.inside)

pub loop-i-preserved : goal.loop-i-preserved
loop-i-preserved c = block_same c.loop-i.invariant (omega (arith, c.loop-i-test.true, c.loop-i.invariant.inside)) c.same_block.ensures (ap not c.if-not-same_block.false)

pub same_from-requires : goal.same_from-requires
same_from-requires c = (c.loop-i.invariant.long, c.loop-i.invariant.inside)

pub returns : goal.returns
returns c = c.same_from.ensures ∙ c.loop-i.invariant.left
