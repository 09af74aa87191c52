use Rattle.index_check.proofs.Finding.{find_begin, find_end, find_none, find_cut, find_again}
use native.Mathlib.Omega.{arith}
use Rattle.index_check.proofs.lists.find_lists.Goals as goal

pub loop-a-init : goal.loop-a-init
loop-a-init c = find_begin _ c.requires

pub shape_of-next-then-index-at : goal.shape_of-next-then-index-at
shape_of-next-then-index-at c = c.loop-a.invariant.next_long

pub shape_of-ends-then-index-at : goal.shape_of-ends-then-index-at
shape_of-ends-then-index-at c = c.loop-a.invariant.ends_long

pub returns-then-index-at : goal.returns-then-index-at
returns-then-index-at c =
    let r = find_none c.loop-a.invariant (omega (arith, c.loop-a.invariant.next_long)) c.if-index-at.true in
    record {
      value = r.0;
      lists = r.1;
    }

pub overflow_cast-count : goal.overflow_cast-count
overflow_cast-count c = omega (arith, c.type_inv.index c.loop-a.at)

pub shape_of-next-then-index-first : goal.shape_of-next-then-index-first
shape_of-next-then-index-first c = c.loop-a.invariant.next_long

pub shape_of-ends-then-index-first : goal.shape_of-ends-then-index-first
shape_of-ends-then-index-first c = c.loop-a.invariant.ends_long

pub returns-then-index-first : goal.returns-then-index-first
returns-then-index-first c =
    let r = find_cut c.loop-a.invariant (omega (arith, c.loop-a.invariant.next_long)) c.if-index-at.false c.if-index-first.true in
    record {
      value = r.0;
      lists = r.1;
    }

pub loop-a-preserved : goal.loop-a-preserved
loop-a-preserved c = find_again c.loop-a.invariant (omega (arith, c.loop-a.invariant.next_long)) c.if-index-at.false c.if-index-first.false

pub shape_of-next : goal.shape_of-next
shape_of-next c = c.loop-a.invariant.next_long

pub shape_of-ends : goal.shape_of-ends
shape_of-ends c = c.loop-a.invariant.ends_long

pub returns : goal.returns
returns c =
    let r = find_end c.loop-a.invariant (omega (arith, c.loop-a.invariant.next_long)) in
    record {
      value = r.0;
      lists = r.1;
    }
