use native.Mathlib.Omega.{arith}
use Rattle.lines.proofs.BracketPlaces.{word_absent, word_last, word_bounded}
use mathlib.Core.Path.{ap}
use mathlib.Core.Bool.{not}
use Rattle.lines.proofs.scan.word_at.Goals as goal

pub returns-then-not-begins_at : goal.returns-then-not-begins_at
returns-then-not-begins_at c = word_absent c.args.s.now c.args.at c.args.word.now c.requires.1.whole c.begins_at.ensures (ap not c.if-not-begins_at.true)

pub returns-then-s-end : goal.returns-then-s-end
returns-then-s-end c = word_last c.args.s.now c.args.at c.args.word.now c.requires.1.whole c.begins_at.ensures (ap not c.if-not-begins_at.false) c.if-s-end.true

pub returns : goal.returns
returns c = word_bounded c.args.s.now c.args.at c.args.word.now c.requires.1.whole c.begins_at.ensures (ap not c.if-not-begins_at.false) (omega (arith, c.if-s-end.false)) c.is_delimiter.ensures
