use native.Mathlib.Omega.{arith}
use Rattle.lines.proofs.BracketPlaces.{gap_inside, opening_out, no_opening, start_inside, opened_there, opened_other}
use Rattle.lines.proofs.scan.opened_at.Goals as goal

pub overflow_add-i : goal.overflow_add-i
overflow_add-i c = omega (arith, gap_inside c.args.s.now c.args.at c.gap_at.ensures c.requires.0)

pub returns-then-s-i : goal.returns-then-s-i
returns-then-s-i c = opening_out c.args.s.now c.args.at c.gap_at.ensures c.if-s-i.true c.args.word.now

pub returns-then-s-i-ne40 : goal.returns-then-s-i-ne40
returns-then-s-i-ne40 c = no_opening c.args.s.now c.args.at c.gap_at.ensures (omega (arith, c.if-s-i.false)) c.if-s-i-ne40.true c.args.word.now

pub overflow_add-start-2 : goal.overflow_add-start-2
overflow_add-start-2 c = omega (arith, start_inside c.args.s.now c.args.at c.gap_at.ensures (omega (arith, c.if-s-i.false)) c.if-s-i-ne40.false c.gap_at-2.ensures c.args.word.now c.requires.1.filled)

pub word_at-requires : goal.word_at-requires
word_at-requires c = (start_inside c.args.s.now c.args.at c.gap_at.ensures (omega (arith, c.if-s-i.false)) c.if-s-i-ne40.false c.gap_at-2.ensures c.args.word.now c.requires.1.filled, c.requires.1)

pub overflow_add-result : goal.overflow_add-result
overflow_add-result c = omega (arith, start_inside c.args.s.now c.args.at c.gap_at.ensures (omega (arith, c.if-s-i.false)) c.if-s-i-ne40.false c.gap_at-2.ensures c.args.word.now c.requires.1.filled)

pub returns-then-word_at : goal.returns-then-word_at
returns-then-word_at c = opened_there c.args.s.now c.args.at c.gap_at.ensures (omega (arith, c.if-s-i.false)) c.if-s-i-ne40.false c.gap_at-2.ensures c.args.word.now c.requires.1.filled c.word_at.ensures c.if-word_at.true

pub returns : goal.returns
returns c = opened_other c.args.s.now c.args.at c.gap_at.ensures (omega (arith, c.if-s-i.false)) c.if-s-i-ne40.false c.gap_at-2.ensures c.args.word.now c.requires.1.filled c.word_at.ensures c.if-word_at.false
