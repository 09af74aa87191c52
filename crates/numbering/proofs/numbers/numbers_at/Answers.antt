use mathlib.Core.Path.{refl, ap, ◌∙◌}
use lib.ListN.{length, length-set}
use Rattle.name_store.proofs.NamePlaces.{length_decode}
use Rattle.output.proofs.Emitting.{same_length as same-length-of}
use Rattle.numbering.proofs.HashedNames.{hashed_end, hashed_item_lem, hashed_name}
use Rattle.numbering.proofs.NameNumbers.{numbering, numbers_closed, numbers_unclosed, number_inside, number_long, not_declared, known_name, atom_marked, word_range, number_passed}
use native.Mathlib.Omega.{arith}
use Rattle.numbering.proofs.numbers.numbers_at.Goals as goal

pub loop-gap-init : goal.loop-gap-init
loop-gap-init c = (refl, refl, numbering _ _ _ _ _ _ _ c.requires.from_in_bounds.0 (omega (arith, c.requires.from_in_bounds.2, length_decode (length c.args.names.now.starts.now) c.args.names.now.bytes.now)) c.requires.from_in_bounds.3 c.requires.below)

pub hashed_item_at-requires : goal.hashed_item_at-requires
hashed_item_at-requires c = c.loop-gap.invariant.2.inside

pub closed_at-requires : goal.closed_at-requires
closed_at-requires c = c.loop-gap.invariant.2.inside

pub returns-in_err-place : goal.returns-in_err-place
returns-in_err-place c = rw c.from_residual-in_err-place.ensures (numbers_unclosed c.loop-gap.invariant.2 refl (hashed_end c.args.line.now c.loop-gap.i c.hashed_item_at.ensures c.in_default.is) c.closed_at.ensures c.in_err-place.was)

pub shape_of-marks : goal.shape_of-marks
shape_of-marks c = c.loop-gap.invariant.0

pub shape_of-out : goal.shape_of-out
shape_of-out c = c.loop-gap.invariant.1

pub returns : goal.returns
returns c = numbers_closed c.loop-gap.invariant.2 refl (hashed_end c.args.line.now c.loop-gap.i c.hashed_item_at.ensures c.in_default.is) c.closed_at.ensures c.in_ok-place.was

pub overflow_add-start : goal.overflow_add-start
overflow_add-start c = omega (arith, number_inside c.loop-gap.invariant.2 refl (hashed_item_lem c.args.line.now c.loop-gap.i c.hashed_item_at.ensures c.in-Some.is))

pub overflow_add-to : goal.overflow_add-to
overflow_add-to c = omega (arith, number_inside c.loop-gap.invariant.2 refl (hashed_item_lem c.args.line.now c.loop-gap.i c.hashed_item_at.ensures c.in-Some.is))

pub slice_bounds-find_hashed-end : goal.slice_bounds-find_hashed-end
slice_bounds-find_hashed-end c = omega (arith, number_inside c.loop-gap.invariant.2 refl (hashed_item_lem c.args.line.now c.loop-gap.i c.hashed_item_at.ensures c.in-Some.is))

pub find_hashed-requires : goal.find_hashed-requires
find_hashed-requires c = hashed_name c.args.line.now c.loop-gap.i c.hashed_item_at.ensures c.in-Some.is

pub returns-in_err-atom : goal.returns-in_err-atom
returns-in_err-atom c = rw c.from_residual.ensures (not_declared c.loop-gap.invariant.2 refl (hashed_item_lem c.args.line.now c.loop-gap.i c.hashed_item_at.ensures c.in-Some.is) c.find_hashed.ensures c.in_err-atom.was)

pub mark-twice-requires : goal.mark-twice-requires
mark-twice-requires c = atom_marked c.loop-gap.invariant.2 refl (hashed_item_lem c.args.line.now c.loop-gap.i c.hashed_item_at.ensures c.in-Some.is) c.find_hashed.ensures c.in_ok-atom.was

pub overflow_cast-atom : goal.overflow_cast-atom
overflow_cast-atom c = omega (arith, (known_name c.loop-gap.invariant.2 refl (hashed_item_lem c.args.line.now c.loop-gap.i c.hashed_item_at.ensures c.in-Some.is) c.find_hashed.ensures c.in_ok-atom.was).below, c.requires.from_in_bounds.1, length_decode (length c.args.names.now.starts.now) c.args.names.now.bytes.now)

pub push-end-requires : goal.push-end-requires
push-end-requires c = word_range c.loop-gap.invariant.2 refl (hashed_item_lem c.args.line.now c.loop-gap.i c.hashed_item_at.ensures c.in-Some.is) c.find_hashed.ensures c.in_ok-atom.was _

pub loop-gap-smaller : goal.loop-gap-smaller
loop-gap-smaller c = omega (arith, number_inside c.loop-gap.invariant.2 refl (hashed_item_lem c.args.line.now c.loop-gap.i c.hashed_item_at.ensures c.in-Some.is), number_long c.loop-gap.invariant.2 refl (hashed_item_lem c.args.line.now c.loop-gap.i c.hashed_item_at.ensures c.in-Some.is))

pub loop-gap-preserved : goal.loop-gap-preserved
loop-gap-preserved c =
    let h = c.loop-gap.invariant in
    let d = (hashed_item_lem c.args.line.now c.loop-gap.i c.hashed_item_at.ensures c.in-Some.is) in
    let f = c.find_hashed.ensures in
    let g = c.in_ok-atom.was in
    let m = c.mark-twice.ensures in
    let w = c.push-end.ensures in (
      ap length m.1 ∙ (length-set c.loop-gap.marks _ _ ∙ h.0),
      same-length-of w ∙ h.1,
      number_passed h.2 refl d f g m.0 m.1 w refl,
    )
