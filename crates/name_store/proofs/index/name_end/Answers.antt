use native.Mathlib.Omega.{arith}
use Rattle.name_store.proofs.NamePlaces.{end_past, end_short, end_inside}
use Rattle.name_store.proofs.index.name_end.Goals as goal

pub returns-then-bytes-at : goal.returns-then-bytes-at
returns-then-bytes-at c = end_past c.args.bytes.now c.args.at c.if-bytes-at.true

pub overflow_cast-size : goal.overflow_cast-size
overflow_cast-size c = omega (arith, c.type_inv.bytes c.args.at)

pub returns-then-bytes-from : goal.returns-then-bytes-from
returns-then-bytes-from c = end_short c.args.bytes.now c.args.at c.if-bytes-at.false c.if-bytes-from.true

pub returns : goal.returns
returns c = end_inside c.args.bytes.now c.args.at c.if-bytes-at.false c.if-bytes-from.false
