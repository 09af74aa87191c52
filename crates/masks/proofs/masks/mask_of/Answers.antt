use mathlib.Core.Path.{refl}
use native.Mathlib.Omega.{arith}
use Rattle.masks.proofs.MaskLoops.{atom_below, mask_first, mask_more, mask_last}
use Rattle.masks.proofs.masks.mask_of.Goals as goal

pub loop-atom-init : goal.loop-atom-init
loop-atom-init c = mask_first c.args.n c.args.atoms.now

pub overflow_sub-n : goal.overflow_sub-n
overflow_sub-n c = omega (arith, atom_below c.args.n c.args.atoms.now c.requires.all c.loop-atom.atom-index _ c.loop-atom-test.true refl)

pub overflow_sub-n-in-loop-atom : goal.overflow_sub-n-in-loop-atom
overflow_sub-n-in-loop-atom c = omega (arith, atom_below c.args.n c.args.atoms.now c.requires.all c.loop-atom.atom-index _ c.loop-atom-test.true refl)

pub bit_of-m-requires : goal.bit_of-m-requires
bit_of-m-requires c = omega (arith, c.requires.n_le_walk_atoms, atom_below c.args.n c.args.atoms.now c.requires.all c.loop-atom.atom-index _ c.loop-atom-test.true refl)

pub loop-atom-preserved : goal.loop-atom-preserved
loop-atom-preserved c = mask_more c.args.n _ c.loop-atom.m _ _ c.loop-atom-test.true c.bit_of-m.ensures c.loop-atom.invariant

pub returns : goal.returns
returns c = mask_last _ _ c.loop-atom.m _ c.loop-atom-test.false c.loop-atom.invariant
