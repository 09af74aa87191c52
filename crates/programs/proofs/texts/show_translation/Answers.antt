use mathlib.Core.Path.{sym}
use lib.Seq.{length-take-le}
use Rattle.programs.proofs.ProgramTexts.{translation_refused, translation_fits, translation_is}
use Rattle.printing.proofs.PrintedLines.{shown_renamed}
use Rattle.kinds.specs.Limits.{stream_limit}
use Prim.Native.Nat.{ℕ}
use lib.ListN.{replicate, length-replicate}
use Rattle.programs.proofs.texts.show_translation.Goals as goal

pub slice_bounds-show-end : goal.slice_bounds-show-end
slice_bounds-show-end c = sym (length-take-le _ _ (translation_fits _ _ (replicate stream_limit 0) (length-replicate {A = ℕ} stream_limit 0) c.translate_checked.ensures.answer c.translate_checked.ensures.output c.in-Ok.is))

pub returns-in-Ok : goal.returns-in-Ok
returns-in-Ok c = shown_renamed (translation_is _ _ (replicate stream_limit 0) (length-replicate {A = ℕ} stream_limit 0) c.translate_checked.ensures.answer c.translate_checked.ensures.output c.in-Ok.is) c.show.ensures

pub returns-in-Err : goal.returns-in-Err
returns-in-Err c = shown_renamed (translation_refused _ _ (replicate stream_limit 0) (length-replicate {A = ℕ} stream_limit 0) c.translate_checked.ensures.answer c.in-Err.is) c.show_refused.ensures
