use Rattle.printing.proofs.PrintedLines.{shown_none, shown_all}
use Rattle.printing.proofs.printing.show.Goals as goal

pub returns-then-out-text : goal.returns-then-out-text
returns-then-out-text c = shown_none _ _ c.if-out-text.true

pub returns : goal.returns
returns c = shown_all c.emit.ensures c.if-out-text.false
