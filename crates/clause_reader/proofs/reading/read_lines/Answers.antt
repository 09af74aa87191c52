use native.Mathlib.Omega.{arith}
use mathlib.Core.Path.{sym, ◌∙◌}
use Rattle.std.proofs.lemmas.Result.{err_from_is_err_and}
use Rattle.lines.proofs.LinePlaces.{line_inside}
use Rattle.clause_reader.proofs.TextWalk.{line_read, line_refused, text_read}
use Rattle.clause_reader.proofs.reading.read_lines.Goals as goal

pub overflow_add-to : goal.overflow_add-to
overflow_add-to c = omega (arith, (line_inside c.args.text.now c.loop-at.at c.loop-at-test.true c.line_at.ensures).0)

pub slice_bounds-read_line-end : goal.slice_bounds-read_line-end
slice_bounds-read_line-end c = (line_inside c.args.text.now c.loop-at.at c.loop-at-test.true c.line_at.ensures).0

pub returns-in_err-reading : goal.returns-in_err-reading
returns-in_err-reading c =
    let p = err_from_is_err_and c.from_residual.result c.from_residual.ensures.1 in
    rw (p.1, p.2) (line_refused c.loop-at.invariant.3 c.loop-at-test.true c.line_at.ensures c.read_line-answer.ensures (sym c.numbered.ensures ∙ c.in_err-reading.was))

pub loop-at-smaller : goal.loop-at-smaller
loop-at-smaller c = let i = line_inside c.args.text.now c.loop-at.at c.loop-at-test.true c.line_at.ensures in omega (arith, i.0, i.1)

pub loop-at-preserved : goal.loop-at-preserved
loop-at-preserved c = (c.read_line-answer.auto.words ∙ c.loop-at.invariant.0, c.read_line-answer.auto.bodies ∙ c.loop-at.invariant.1, c.read_line-answer.auto.marks ∙ c.loop-at.invariant.2, line_read c.loop-at.invariant.3 c.loop-at-test.true c.line_at.ensures c.read_line-answer.ensures (sym c.numbered.ensures ∙ c.in_ok-reading.was))

pub returns : goal.returns
returns c = text_read c.loop-at.invariant.3 c.loop-at-test.false c.at_end.ensures
