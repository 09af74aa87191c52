use mathlib.Core.Path.{sym, ◌∙◌}
use borrow.Author.Tests.{le-leb}
use Rattle.clause_items.proofs.FirstItems.{word_absent, word_last, word_parted}
use Rattle.clause_items.proofs.header.is_word.Goals as goal

pub returns-then-not-begins_at : goal.returns-then-not-begins_at
returns-then-not-begins_at c = word_absent c.args.line.now c.args.at c.args.word.now (sym c.begins_at.ensures ∙ c.if-not-begins_at.true)

pub returns-then-line-to : goal.returns-then-line-to
returns-then-line-to c = le-leb _ _ c.if-line-to.true ∙ word_last c.args.line.now c.args.at c.args.word.now c.requires.1 (sym c.begins_at.ensures ∙ c.if-not-begins_at.false) c.if-line-to.true

pub returns-else-line-to : goal.returns-else-line-to
returns-else-line-to c = word_parted c.args.line.now c.args.at c.args.word.now c.requires.1 (sym c.begins_at.ensures ∙ c.if-not-begins_at.false) c.if-line-to.false c.is_separator.ensures
