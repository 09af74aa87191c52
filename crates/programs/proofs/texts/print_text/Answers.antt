use Rattle.programs.proofs.ProgramTexts.{long_text}
use Rattle.printing.proofs.PrintedLines.{shown_renamed}
use Rattle.programs.proofs.texts.print_text.Goals as goal

pub returns-then-text-gt-STREAM : goal.returns-then-text-gt-STREAM
returns-then-text-gt-STREAM c = shown_renamed (long_text _ _ c.if-text-gt-STREAM.true) c.show_refused.ensures
