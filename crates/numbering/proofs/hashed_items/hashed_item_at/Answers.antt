use native.Mathlib.Omega.{arith}
use mathlib.Core.Path.{refl, sym, ◌∙◌}
use Rattle.lines.proofs.BracketPlaces.{gap_inside, item_out, item_stops, item_found}
use Rattle.numbering.proofs.HashedNames.{hashed_stop, hashed_found}
use Rattle.numbering.proofs.hashed_items.hashed_item_at.Goals as goal

pub overflow_add-start : goal.overflow_add-start
overflow_add-start c = omega (arith, gap_inside c.args.s.now c.args.at c.gap_at-gap.ensures c.requires)

pub returns-then-s-start : goal.returns-then-s-start
returns-then-s-start c = hashed_stop c.args.s.now c.args.at (item_out c.args.s.now c.args.at c.gap_at-gap.ensures c.if-s-start.true)

pub returns-then-is_delimiter : goal.returns-then-is_delimiter
returns-then-is_delimiter c = hashed_stop c.args.s.now c.args.at (item_stops c.args.s.now c.args.at c.gap_at-gap.ensures (omega (arith, c.if-s-start.false)) (sym c.is_delimiter.ensures ∙ c.if-is_delimiter.true))

pub returns : goal.returns
returns c = hashed_found c.args.s.now c.args.at (item_found c.args.s.now c.args.at c.gap_at-gap.ensures (omega (arith, c.if-s-start.false)) (sym c.is_delimiter.ensures ∙ c.if-is_delimiter.false) refl) c.hashed_run_at.ensures
