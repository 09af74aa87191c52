use native.Mathlib.Omega.{arith}
use Rattle.reader.proofs.Delivering.{made_preference, held_preference, formed_preference, delivered_preference, form_here, delivered_here}
use Rattle.reader.proofs.deliver_placed.Reads as deliver-placed-reads
use Rattle.remaining_stores.proofs.remaining.deliver.Reads as deliver-reads
use Rattle.reader.proofs.deliver.Goals as goal

pub deliver-requires : goal.deliver-requires
deliver-requires c = (c.requires.0, form_here c.requires.0 c.requires.1 c.if-gathered-eq0.true)

pub returns-then-gathered-eq0 : goal.returns-then-gathered-eq0
returns-then-gathered-eq0 c = delivered_here c.requires.0 c.requires.1 c.if-gathered-eq0.true c.deliver.ensures

pub deliver_placed-requires : goal.deliver_placed-requires
deliver_placed-requires c = let n = c.if-gathered-eq0.false in (held_preference c.requires.0 (made_preference c.args.kind c.requires.0 c.if-gathered-eq0.false), formed_preference c.requires.0 (made_preference c.args.kind c.requires.0 c.if-gathered-eq0.false) c.requires.1, omega arith)

pub returns : goal.returns
returns c = delivered_preference c.requires.0 (made_preference c.args.kind c.requires.0 c.if-gathered-eq0.false) c.deliver_placed.ensures
