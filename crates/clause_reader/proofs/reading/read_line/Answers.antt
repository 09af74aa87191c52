use mathlib.Core.Bool.{true}
use Rattle.lines.specs.Lines.{is_ended}
use Rattle.clauses.specs.Faults.{next, step_line}
use mathlib.Core.Path.{◌≡◌, sym, ap, ◌∙◌}
use Rattle.clause_reader.specs.Reading.{state_of}
use Rattle.clause_reader.proofs.FileLines.{line_unended, line_comment, line_blank, line_unheaded, line_headed, step_is}
use Rattle.clause_reader.proofs.reading.read_line.Goals as goal
use Rattle.clause_reader.proofs.reading.read_line.Goals.{then-line-eq99-via-then-line-eq99, then-line-eq99-via-else-line-eq99+then-skip-line}

pub returns-then-not-is_ended : goal.returns-then-not-is_ended
returns-then-not-is_ended c = record { says = line_unended (state_of c.args.reading c.args.words.now c.args.bodies.now) c.args.line.now (sym c.is_ended.ensures ∙ c.if-not-is_ended.true) }

pub returns-then-line-eq99 : goal.returns-then-line-eq99
returns-then-line-eq99 c =
    let s = state_of c.args.reading c.args.words.now c.args.bodies.now in
    let e : is_ended c.args.line.now ≡ true = sym c.is_ended.ensures ∙ c.if-not-is_ended.false in
    let k : step_line s c.args.line.now ≡ next s = elim c.then-line-eq99.branch [
      | then-line-eq99-via-then-line-eq99 w ↦ line_comment s c.args.line.now e w.if-line-eq99.true
      | then-line-eq99-via-else-line-eq99+then-skip-line w ↦ line_blank s c.args.line.now e w.if-line-eq99.false w.skip.ensures w.if-skip-line.true
    ] in
    record { says = (k, c.requires) }

pub returns-in-None : goal.returns-in-None
returns-in-None c = step_is (line_unheaded (state_of c.args.reading c.args.words.now c.args.bodies.now) c.args.line.now (sym c.is_ended.ensures ∙ c.if-not-is_ended.false) c.if-line-eq99.false c.skip.ensures c.if-skip-line.false (ap (λ r. state_of r c.args.words.now c.args.bodies.now) c.in-None.is)) c.read_header.ensures

pub returns-in-Some : goal.returns-in-Some
returns-in-Some c = step_is (line_headed (state_of c.args.reading c.args.words.now c.args.bodies.now) c.args.line.now (sym c.is_ended.ensures ∙ c.if-not-is_ended.false) c.if-line-eq99.false c.skip.ensures c.if-skip-line.false (ap (λ r. state_of r c.args.words.now c.args.bodies.now) c.in-Some.is)) c.read_items.ensures
