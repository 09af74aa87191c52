use Rattle.remaining_stores.proofs.LeftStores.{few, left_over, marks_there, names_stored, names_range, rules_lack, names_lack, left_delivered}
use native.Mathlib.Omega.{arith}
use Rattle.remaining_stores.proofs.remaining.deliver_left.Goals as goal

pub overflow_sub-filled : goal.overflow_sub-filled
overflow_sub-filled c = omega (arith, few c.requires.0 c.requires.1)

pub overflow_sub-filled-2 : goal.overflow_sub-filled-2
overflow_sub-filled-2 c = omega (arith, left_over c.requires.0 c.requires.1)

pub put_names-used-requires : goal.put_names-used-requires
put_names-used-requires c = (names_stored c.requires.0 c.requires.1, marks_there c.requires.0 c.requires.1, names_range c.requires.0 c.requires.1)

pub returns-then-rules-filled : goal.returns-then-rules-filled
returns-then-rules-filled c = rules_lack c.requires.0 c.requires.1 c.put_names-used.ensures _ _ c.if-rules-filled.true

pub returns-then-names-used : goal.returns-then-names-used
returns-then-names-used c = names_lack c.requires.0 c.requires.1 c.put_names-used.ensures _ _ c.if-names-used.true

pub put_names-requires : goal.put_names-requires
put_names-requires c = (names_stored c.requires.0 c.requires.1, marks_there c.requires.0 c.requires.1, names_range c.requires.0 c.requires.1)

pub returns : goal.returns
returns c = left_delivered c.requires.0 c.requires.1 c.put_names-used.ensures _ _ c.if-rules-filled.false c.if-names-used.false c.put_left.ensures c.put_names.ensures
