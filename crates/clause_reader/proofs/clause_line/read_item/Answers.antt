use mathlib.Core.Path.{refl, sym, ◌∙◌}
use Rattle.clause_reader.proofs.ClauseSteps.{progress_stop, progress_broken, progress_surplus, progress_ended, progress_literal, progress_refused, literal_found}
use Rattle.std.proofs.lemmas.Result.{err_from_is_err_and}
use Rattle.clause_reader.proofs.clause_line.read_item.Goals as goal

pub returns-then-is_full : goal.returns-then-is_full
returns-then-is_full c = progress_surplus c.args.line.now c.args.at c.requires.1 c.requires.0 c.item_at.ensures c.in-Ends.is (sym c.is_full.ensures ∙ c.if-is_full.true)

pub read_literal-requires : goal.read_literal-requires
read_literal-requires c = let t = literal_found c.args.line.now c.args.at c.requires.1 c.requires.0 c.item_at.ensures c.in-Literal.is in (c.requires.0, t.0, t.1)

pub returns-in-Stop : goal.returns-in-Stop
returns-in-Stop c = progress_stop c.args.line.now c.args.at c.requires.1 c.requires.0 c.item_at.ensures c.in-Stop.is refl

pub returns-in-Broken : goal.returns-in-Broken
returns-in-Broken c = progress_broken c.args.line.now c.args.at c.requires.1 c.requires.0 c.item_at.ensures c.in-Broken.is

pub returns-else-is_full : goal.returns-else-is_full
returns-else-is_full c = progress_ended c.args.line.now c.args.at c.requires.1 c.requires.0 c.item_at.ensures c.in-Ends.is (sym c.is_full.ensures ∙ c.if-is_full.false) c.end_clause-after.ensures

pub returns-in_ok-after-in-Literal : goal.returns-in_ok-after-in-Literal
returns-in_ok-after-in-Literal c = progress_literal c.args.line.now c.args.at c.requires.1 c.requires.0 c.item_at.ensures c.in-Literal.is c.read_literal.ensures c.in_ok-after-in-Literal.was

pub returns-in_err-after-in-Literal : goal.returns-in_err-after-in-Literal
returns-in_err-after-in-Literal c =
    let p = err_from_is_err_and c.from_residual.result c.from_residual.ensures.1 in
    rw (p.1, p.2) (progress_refused c.args.line.now c.args.at c.requires.1 c.requires.0 c.item_at.ensures c.in-Literal.is c.read_literal.ensures c.in_err-after-in-Literal.was)
