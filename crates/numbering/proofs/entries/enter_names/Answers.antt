use mathlib.Core.Path.{refl, ◌∙◌}
use Rattle.numbering.proofs.Entering.{entering, names_entered, entry_inside, entry_long, entry_short, store_full, entry_index, entry_room, entered_twice, entered_again}
use native.Mathlib.Omega.{arith}
use Rattle.numbering.proofs.entries.enter_names.Goals as goal

pub loop-gap-init : goal.loop-gap-init
loop-gap-init c = (refl, refl, refl, refl, entering c.requires.from_in_bounds.0 c.requires.from_in_bounds.1 c.requires.room c.requires.stored)

pub item_at-requires : goal.item_at-requires
item_at-requires c = c.loop-gap.invariant.4.inside

pub shape_of-bytes : goal.shape_of-bytes
shape_of-bytes c = c.loop-gap.invariant.0

pub shape_of-starts : goal.shape_of-starts
shape_of-starts c = c.loop-gap.invariant.1

pub shape_of-firsts : goal.shape_of-firsts
shape_of-firsts c = c.loop-gap.invariant.2

pub shape_of-links : goal.shape_of-links
shape_of-links c = c.loop-gap.invariant.3

pub returns : goal.returns
returns c = record { says = names_entered c.loop-gap.invariant.4 c.item_at.ensures c.in_default.is }

pub shape_of-bytes-then-atom-ge-ATOMS : goal.shape_of-bytes-then-atom-ge-ATOMS
shape_of-bytes-then-atom-ge-ATOMS c = c.loop-gap.invariant.0

pub shape_of-starts-then-atom-ge-ATOMS : goal.shape_of-starts-then-atom-ge-ATOMS
shape_of-starts-then-atom-ge-ATOMS c = c.loop-gap.invariant.1

pub shape_of-firsts-then-atom-ge-ATOMS : goal.shape_of-firsts-then-atom-ge-ATOMS
shape_of-firsts-then-atom-ge-ATOMS c = c.loop-gap.invariant.2

pub shape_of-links-then-atom-ge-ATOMS : goal.shape_of-links-then-atom-ge-ATOMS
shape_of-links-then-atom-ge-ATOMS c = c.loop-gap.invariant.3

pub returns-then-atom-ge-ATOMS : goal.returns-then-atom-ge-ATOMS
returns-then-atom-ge-ATOMS c = record { says = store_full c.loop-gap.invariant.4 c.item_at.ensures c.in-Some.is c.if-atom-ge-ATOMS.true }

pub overflow_add-start : goal.overflow_add-start
overflow_add-start c = omega (arith, entry_inside c.loop-gap.invariant.4 c.item_at.ensures c.in-Some.is)

pub overflow_add-to : goal.overflow_add-to
overflow_add-to c = omega (arith, entry_inside c.loop-gap.invariant.4 c.item_at.ensures c.in-Some.is)

pub slice_bounds-enter_name-end : goal.slice_bounds-enter_name-end
slice_bounds-enter_name-end c = omega (arith, entry_inside c.loop-gap.invariant.4 c.item_at.ensures c.in-Some.is)

pub enter_name-requires : goal.enter_name-requires
enter_name-requires c =
    record {
      indexed = entry_index c.loop-gap.invariant.4 c.item_at.ensures c.in-Some.is c.if-atom-ge-ATOMS.false;
      entry_room = entry_room c.loop-gap.invariant.4 c.item_at.ensures c.in-Some.is c.if-atom-ge-ATOMS.false;
    }

pub overflow_add-atom : goal.overflow_add-atom
overflow_add-atom c = omega (arith, c.if-atom-ge-ATOMS.false)

pub overflow_add-at : goal.overflow_add-at
overflow_add-at c = omega (arith, entry_inside c.loop-gap.invariant.4 c.item_at.ensures c.in-Some.is)

pub overflow_add-at-in-Some : goal.overflow_add-at-in-Some
overflow_add-at-in-Some c = omega (arith, entry_short c.loop-gap.invariant.4 c.item_at.ensures c.in-Some.is, c.loop-gap.invariant.4.stored.short, c.if-atom-ge-ATOMS.false)

pub loop-gap-smaller : goal.loop-gap-smaller
loop-gap-smaller c = omega (arith, entry_inside c.loop-gap.invariant.4 c.item_at.ensures c.in-Some.is, entry_long c.loop-gap.invariant.4 c.item_at.ensures c.in-Some.is)

pub loop-gap-preserved : goal.loop-gap-preserved
loop-gap-preserved c = (c.enter_name.auto.bytes ∙ c.loop-gap.invariant.0, c.enter_name.auto.starts ∙ c.loop-gap.invariant.1, c.enter_name.auto.firsts ∙ c.loop-gap.invariant.2, c.enter_name.auto.links ∙ c.loop-gap.invariant.3, entered_again c.loop-gap.invariant.4 c.item_at.ensures c.in-Some.is c.if-atom-ge-ATOMS.false c.enter_name.ensures c.if-not-enter_name.false c.enter_name.auto.bytes c.enter_name.auto.starts c.enter_name.auto.links)

pub shape_of-bytes-then-not-enter_name : goal.shape_of-bytes-then-not-enter_name
shape_of-bytes-then-not-enter_name c = c.enter_name.auto.bytes ∙ c.loop-gap.invariant.0

pub shape_of-starts-then-not-enter_name : goal.shape_of-starts-then-not-enter_name
shape_of-starts-then-not-enter_name c = c.enter_name.auto.starts ∙ c.loop-gap.invariant.1

pub shape_of-firsts-then-not-enter_name : goal.shape_of-firsts-then-not-enter_name
shape_of-firsts-then-not-enter_name c = c.enter_name.auto.firsts ∙ c.loop-gap.invariant.2

pub shape_of-links-then-not-enter_name : goal.shape_of-links-then-not-enter_name
shape_of-links-then-not-enter_name c = c.enter_name.auto.links ∙ c.loop-gap.invariant.3

pub returns-then-not-enter_name : goal.returns-then-not-enter_name
returns-then-not-enter_name c = record { says = entered_twice c.loop-gap.invariant.4 c.item_at.ensures c.in-Some.is c.if-atom-ge-ATOMS.false c.enter_name.ensures c.if-not-enter_name.true }
