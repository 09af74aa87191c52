use mathlib.Core.Path.{refl}
use lib.Dec.{eqb}
use lib.ListN.{get_or}
use Rattle.clause_items.proofs.Signs.{item_stop, item_signed}
use Rattle.clause_items.proofs.items.item_at.Goals as goal

pub returns-then-line-from : goal.returns-then-line-from
returns-then-line-from c = item_stop c.args.line.now c.args.at c.skip-from.ensures c.if-line-from.true

pub returns : goal.returns
returns c = item_signed c.args.line.now c.args.at c.skip-from.ensures c.if-line-from.false (eqb (get_or c.args.line.now c.skip-from.result 0) 45) refl c.past_sign.ensures c.signed_at.ensures
