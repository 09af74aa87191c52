use native.Mathlib.Omega.{arith}
use Rattle.lines.proofs.TokenPlaces.{item_fits}
use Rattle.condition_parts.proofs.WordPlaces.{no_word, word_here}
use Rattle.condition_parts.proofs.places.word_at.Goals as goal

pub returns-in_err-gap : goal.returns-in_err-gap
returns-in_err-gap c = rw c.from_residual.ensures (no_word c.args.s.now c.args.at c.args.word.now c.item_at.ensures c.in_err-gap.was)

pub overflow_add-start : goal.overflow_add-start
overflow_add-start c = omega (arith, item_fits c.args.s.now c.args.at c.item_at.ensures c.in_ok-gap.was)

pub overflow_add-to : goal.overflow_add-to
overflow_add-to c = omega (arith, item_fits c.args.s.now c.args.at c.item_at.ensures c.in_ok-gap.was)

pub slice_bounds-same_bytes-end : goal.slice_bounds-same_bytes-end
slice_bounds-same_bytes-end c = omega (arith, item_fits c.args.s.now c.args.at c.item_at.ensures c.in_ok-gap.was)

pub returns : goal.returns
returns c = rw c.then_some.ensures (word_here c.args.s.now c.args.at c.args.word.now c.item_at.ensures c.in_ok-gap.was c.same_bytes.ensures)
