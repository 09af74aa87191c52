use native.Mathlib.Omega.{arith}
use lib.ListN.{get_or}
use Rattle.name_store.proofs.NamePlaces.{by_number, part_here}
use Rattle.name_store.proofs.index.name_at.Goals as goal

pub overflow_cast-at : goal.overflow_cast-at
overflow_cast-at c = omega (arith, c.type_inv.starts c.args.atom)

pub overflow_add-from : goal.overflow_add-from
overflow_add-from c = omega (arith, by_number c.args.bytes.now c.args.starts.now c.args.atom c.requires.0 c.requires.1)

pub bounds-bytes-at : goal.bounds-bytes-at
bounds-bytes-at c = omega (arith, by_number c.args.bytes.now c.args.starts.now c.args.atom c.requires.0 c.requires.1)

pub overflow_cast-to : goal.overflow_cast-to
overflow_cast-to c = omega (arith, c.type_inv.bytes (get_or c.args.starts.now c.args.atom 0))

pub overflow_add-to : goal.overflow_add-to
overflow_add-to c = omega (arith, by_number c.args.bytes.now c.args.starts.now c.args.atom c.requires.0 c.requires.1)

pub slice_bounds-result-end : goal.slice_bounds-result-end
slice_bounds-result-end c = omega (arith, by_number c.args.bytes.now c.args.starts.now c.args.atom c.requires.0 c.requires.1)

pub returns : goal.returns
returns c = part_here (by_number c.args.bytes.now c.args.starts.now c.args.atom c.requires.0 c.requires.1)
