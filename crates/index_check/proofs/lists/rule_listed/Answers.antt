use Rattle.index_check.proofs.Reading.{read_begin, read_end, atom_next, atom_end, atom_mark, end_inside, marks_sized, read_before, no_entry, other_entry, read_entry}
use native.Mathlib.Omega.{arith}
use Rattle.index_check.proofs.lists.rule_listed.Goals as goal
use Rattle.index_check.proofs.lists.rule_listed.Goals.{else-first, then-first+else-ends-a+else-index-at}

pub overflow_add-stamp : goal.overflow_add-stamp
overflow_add-stamp c = omega (arith, c.requires.rule_bound.0)

pub loop-atom-init : goal.loop-atom-init
loop-atom-init c = read_begin c.requires.all c.requires.rule_bound.1

pub overflow_cast-a : goal.overflow_cast-a
overflow_cast-a c = omega (arith, c.type_inv.atoms c.loop-atom.atom-index)

pub first_here-first-requires : goal.first_here-first-requires
first_here-first-requires c = atom_mark c.loop-atom.invariant c.loop-atom-test.true

pub offset_bounds-next-a : goal.offset_bounds-next-a
offset_bounds-next-a c = omega (arith, c.type_inv.atoms c.loop-atom.atom-index)

pub bounds-next-a : goal.bounds-next-a
bounds-next-a c = atom_next c.loop-atom.invariant c.loop-atom-test.true

pub offset_bounds-ends-a : goal.offset_bounds-ends-a
offset_bounds-ends-a c = omega (arith, c.type_inv.atoms c.loop-atom.atom-index)

pub bounds-ends-a : goal.bounds-ends-a
bounds-ends-a c = atom_end c.loop-atom.invariant c.loop-atom-test.true

pub shape_of-next-then-ends-a : goal.shape_of-next-then-ends-a
shape_of-next-then-ends-a c = c.loop-atom.invariant.raised.size

pub shape_of-marks-then-ends-a : goal.shape_of-marks-then-ends-a
shape_of-marks-then-ends-a c = marks_sized c.loop-atom.invariant c.loop-atom-test.true c.first_here-first.ensures.marks_after

pub returns-then-ends-a : goal.returns-then-ends-a
returns-then-ends-a c =
    let r = no_entry c.loop-atom.invariant c.loop-atom-test.true c.first_here-first.ensures.marks_after c.first_here-first.ensures.value c.if-first.true c.if-ends-a.true in
    record {
      value = r.0;
      raised = r.1.0;
      below = r.1.1;
    }

pub offset_bounds-index-at : goal.offset_bounds-index-at
offset_bounds-index-at c = omega (arith, end_inside c.loop-atom.invariant c.loop-atom-test.true, c.if-ends-a.false)

pub bounds-index-at : goal.bounds-index-at
bounds-index-at c = omega (arith, end_inside c.loop-atom.invariant c.loop-atom-test.true, c.if-ends-a.false)

pub shape_of-next-then-index-at : goal.shape_of-next-then-index-at
shape_of-next-then-index-at c = c.loop-atom.invariant.raised.size

pub shape_of-marks-then-index-at : goal.shape_of-marks-then-index-at
shape_of-marks-then-index-at c = marks_sized c.loop-atom.invariant c.loop-atom-test.true c.first_here-first.ensures.marks_after

pub returns-then-index-at : goal.returns-then-index-at
returns-then-index-at c =
    let r = other_entry c.loop-atom.invariant c.loop-atom-test.true c.first_here-first.ensures.marks_after c.first_here-first.ensures.value c.if-first.true c.if-index-at.true in
    record {
      value = r.0;
      raised = r.1.0;
      below = r.1.1;
    }

pub overflow_add-next : goal.overflow_add-next
overflow_add-next c = omega (arith, end_inside c.loop-atom.invariant c.loop-atom-test.true, c.if-ends-a.false)

pub offset_bounds-next-a-then-first : goal.offset_bounds-next-a-then-first
offset_bounds-next-a-then-first c = omega (arith, c.type_inv.atoms c.loop-atom.atom-index)

pub bounds-next-a-then-first : goal.bounds-next-a-then-first
bounds-next-a-then-first c = atom_next c.loop-atom.invariant c.loop-atom-test.true

pub loop-atom-preserved : goal.loop-atom-preserved
loop-atom-preserved c = elim c.if-first.branch [ then-first+else-ends-a+else-index-at w ↦ read_entry c.loop-atom.invariant c.loop-atom-test.true c.first_here-first.ensures.marks_after c.first_here-first.ensures.value w.if-first.true w.if-ends-a.false w.if-index-at.false w.next-is | else-first w ↦ read_before c.loop-atom.invariant c.loop-atom-test.true c.first_here-first.ensures.marks_after c.first_here-first.ensures.value w.if-first.false w.next-is ]

pub shape_of-next : goal.shape_of-next
shape_of-next c = c.loop-atom.invariant.raised.size

pub shape_of-marks : goal.shape_of-marks
shape_of-marks c = c.loop-atom.invariant.marks_long

pub returns : goal.returns
returns c =
    let r = read_end c.loop-atom.invariant c.loop-atom-test.false in
    record {
      value = r.0;
      raised = r.1.0;
      below = r.1.1;
    }
