use Rattle.name_store.proofs.NameEntries.{is_found, not_found}
use Rattle.numbering.proofs.Entering.{looking, none_known, look_inside, look_long, one_known, look_again}
use native.Mathlib.Omega.{arith}
use Rattle.numbering.proofs.entries.any_known.Goals as goal

pub loop-gap-init : goal.loop-gap-init
loop-gap-init c = looking _ _ _ c.requires

pub returns : goal.returns
returns c = none_known c.loop-gap.invariant c.item_at.ensures c.in_default.is

pub overflow_add-start : goal.overflow_add-start
overflow_add-start c = omega (arith, look_inside c.loop-gap.invariant c.item_at.ensures c.in-Some.is)

pub overflow_add-to : goal.overflow_add-to
overflow_add-to c = omega (arith, look_inside c.loop-gap.invariant c.item_at.ensures c.in-Some.is)

pub slice_bounds-find-end : goal.slice_bounds-find-end
slice_bounds-find-end c = omega (arith, look_inside c.loop-gap.invariant c.item_at.ensures c.in-Some.is)

pub returns-then-is_some : goal.returns-then-is_some
returns-then-is_some c = one_known c.loop-gap.invariant c.item_at.ensures c.in-Some.is c.find.ensures (is_found _ c.is_some.ensures c.if-is_some.true).1

pub loop-gap-smaller : goal.loop-gap-smaller
loop-gap-smaller c = omega (arith, look_inside c.loop-gap.invariant c.item_at.ensures c.in-Some.is, look_long c.loop-gap.invariant c.item_at.ensures c.in-Some.is)

pub loop-gap-preserved : goal.loop-gap-preserved
loop-gap-preserved c = look_again c.loop-gap.invariant c.item_at.ensures c.in-Some.is c.find.ensures (not_found _ c.is_some.ensures c.if-is_some.false)
