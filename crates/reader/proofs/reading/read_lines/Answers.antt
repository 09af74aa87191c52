use Prim.Native.Nat.{◌-◌}
use mathlib.Core.Path.{refl, ap, ◌∙◌}
use Rattle.std.specs.Prelude.{Err}
use Rattle.std.proofs.lemmas.Result.{err_from_is_err_and}
use Rattle.lines.proofs.LinePlaces.{line_inside, line_short}
use Rattle.reader.proofs.LineByLine.{reading, no_line_left, line_read, line_passed}
use native.Mathlib.Omega.{arith}
use Rattle.reader.proofs.reading.read_lines.Goals as goal

pub loop-at-init : goal.loop-at-init
loop-at-init c = (refl, refl, refl, refl, refl, refl, reading c.requires.held c.requires.held_index c.requires.held_marks c.start_counts-gathered.ensures)

pub line_at-requires : goal.line_at-requires
line_at-requires c = c.loop-at.invariant.6.inside

pub overflow_add-to : goal.overflow_add-to
overflow_add-to c = omega (arith, (line_inside c.args.text.now c.loop-at.at c.loop-at-test.true c.line_at.ensures).0)

pub slice_bounds-read_line-end : goal.slice_bounds-read_line-end
slice_bounds-read_line-end c = (line_inside c.args.text.now c.loop-at.at c.loop-at-test.true c.line_at.ensures).0

pub read_line-answer-requires : goal.read_line-answer-requires
read_line-answer-requires c =
    record {
      line_len_bound = omega (arith, line_short c.args.text.now c.loop-at.at c.loop-at-test.true c.line_at.ensures, c.requires.text_len_bound);
      held = c.loop-at.invariant.6.held;
      held_index = c.loop-at.invariant.6.index;
      held_marks = c.loop-at.invariant.6.marked;
    }

pub returns-in_err-gathered : goal.returns-in_err-gathered
returns-in_err-gathered c =
    let p = err_from_is_err_and c.from_residual.result c.from_residual.ensures.1 in
    line_passed c.loop-at.invariant.6 c.loop-at-test.true c.line_at.ensures c.read_line-answer.ensures.line_is c.read_line-answer.ensures.marks_are c.passed_on.ensures c.in_err-gathered.was (p.1 ∙ ap Err p.2)

pub overflow_add-number : goal.overflow_add-number
overflow_add-number c = omega (arith, c.loop-at.invariant.6.few, c.loop-at.invariant.6.inside, c.requires.text_len_bound)

pub loop-at-smaller : goal.loop-at-smaller
loop-at-smaller c = let i = line_inside c.args.text.now c.loop-at.at c.loop-at-test.true c.line_at.ensures in omega (arith, i.0, i.1)

pub loop-at-preserved : goal.loop-at-preserved
loop-at-preserved c = (c.read_line-answer.auto.words ∙ c.loop-at.invariant.0, c.read_line-answer.auto.bytes ∙ c.loop-at.invariant.1, c.read_line-answer.auto.starts ∙ c.loop-at.invariant.2, c.read_line-answer.auto.firsts ∙ c.loop-at.invariant.3, c.read_line-answer.auto.links ∙ c.loop-at.invariant.4, c.read_line-answer.auto.marks ∙ c.loop-at.invariant.5, line_read c.loop-at.invariant.6 c.loop-at-test.true c.line_at.ensures c.read_line-answer.ensures.line_is c.read_line-answer.ensures.marks_are c.passed_on.ensures c.in_ok-gathered.was)

pub returns : goal.returns
returns c = no_line_left c.loop-at.invariant.6 c.loop-at-test.false c.at_end.ensures
