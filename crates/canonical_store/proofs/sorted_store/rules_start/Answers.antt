use Rattle.canonical_store.proofs.StoreParts.{plain_start, preference_start}
use native.Mathlib.Omega.{arith}
use Rattle.canonical_store.proofs.sorted_store.rules_start.Goals as goal

pub returns-then-words-eq0 : goal.returns-then-words-eq0
returns-then-words-eq0 c = plain_start _ _ c.if-words-eq0.true

pub overflow_cast-result : goal.overflow_cast-result
overflow_cast-result c = omega (arith, c.type_inv.words 1)

pub overflow_add-result : goal.overflow_add-result
overflow_add-result c = omega (arith, c.type_inv.words 1)

pub returns : goal.returns
returns c = preference_start _ _ c.if-words-eq0.false
