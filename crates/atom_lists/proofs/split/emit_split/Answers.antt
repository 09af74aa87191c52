use Rattle.atom_lists.proofs.Splitting.{split_begins, place_range, split_again, split_ends, low_small, high_small, split_length}
use Rattle.rules.proofs.Lists.{all_at}
use native.Mathlib.Omega.{arith}
use Prim.Native.Nat.{◌<◌}
use Rattle.atom_lists.proofs.split.emit_split.Goals as goal

pub loop-atom-init : goal.loop-atom-init
loop-atom-init c = split_begins _ _ _ _ _ c.requires

pub put_atom-is_below-requires : goal.put_atom-is_below-requires
put_atom-is_below-requires c = (all_at (λ a. a < 256) 0 c.args.atoms.now c.loop-atom.invariant.fits.atoms _ c.loop-atom-test.true, c.loop-atom.invariant.fits.shifts.0, c.loop-atom.invariant.fits.shifts.1, place_range c.loop-atom.invariant c.loop-atom-test.true)

pub overflow_add-low : goal.overflow_add-low
overflow_add-low c = omega (arith, low_small c.loop-atom.invariant)

pub overflow_add-high : goal.overflow_add-high
overflow_add-high c = omega (arith, high_small c.loop-atom.invariant)

pub loop-atom-preserved : goal.loop-atom-preserved
loop-atom-preserved c = split_again c.loop-atom.invariant c.loop-atom-test.true c.put_atom-is_below.ensures.value c.put_atom-is_below.ensures.out_after c.chosen-low.ensures c.chosen-high.ensures

pub shape_of-out : goal.shape_of-out
shape_of-out c = split_length c.loop-atom.invariant

pub returns : goal.returns
returns c = split_ends c.loop-atom.invariant c.loop-atom-test.false
