use mathlib.Core.Path.{sym, ◌∙◌}
use Rattle.reader.proofs.reading.at_end.Goals as goal

pub returns-then-is_ruling : goal.returns-then-is_ruling
returns-then-is_ruling c = rw (sym c.is_ruling.ensures ∙ c.if-is_ruling.true)

pub returns : goal.returns
returns c = rw (sym c.is_ruling.ensures ∙ c.if-is_ruling.false)
