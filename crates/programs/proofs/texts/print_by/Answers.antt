use mathlib.Core.Path.{sym}
use lib.Seq.{length-take-le}
use Rattle.programs.proofs.ProgramTexts.{rules_part, names_part, read_stores, refused_text_lem, accepted_text}
use Rattle.printing.proofs.PrintedLines.{shown_renamed}
use borrow.Author.Rules.{rules}
use Rattle.programs.proofs.texts.print_by.Goals as goal

pub slice_bounds-show_stores-end : goal.slice_bounds-show_stores-end
slice_bounds-show_stores-end c = rules_part c.args.text.now c.args.rules.now c.args.names.now c.read.ensures.answer c.in-Ok.is c.read.ensures.rules c.read.ensures.names

pub slice_bounds-show_stores-end-in-Ok : goal.slice_bounds-show_stores-end-in-Ok
slice_bounds-show_stores-end-in-Ok c = sym (length-take-le _ _ (rules_part c.args.text.now c.args.rules.now c.args.names.now c.read.ensures.answer c.in-Ok.is c.read.ensures.rules c.read.ensures.names))

pub slice_bounds-show_stores-end-in-Ok-2 : goal.slice_bounds-show_stores-end-in-Ok-2
slice_bounds-show_stores-end-in-Ok-2 c = names_part c.args.text.now c.args.rules.now c.args.names.now c.read.ensures.answer c.in-Ok.is c.read.ensures.rules c.read.ensures.names

pub slice_bounds-show_stores-end-in-Ok-3 : goal.slice_bounds-show_stores-end-in-Ok-3
slice_bounds-show_stores-end-in-Ok-3 c = sym (length-take-le _ _ (names_part c.args.text.now c.args.rules.now c.args.names.now c.read.ensures.answer c.in-Ok.is c.read.ensures.rules c.read.ensures.names))

pub show_stores-requires : goal.show_stores-requires
show_stores-requires c = read_stores c.args.text.now c.args.rules.now c.args.names.now c.read.ensures.answer c.in-Ok.is c.read.ensures.rules c.read.ensures.names

pub returns-in-Ok : goal.returns-in-Ok
returns-in-Ok c = shown_renamed (accepted_text c.args.text.now c.args.rules.now c.args.names.now c.read.ensures.answer c.in-Ok.is c.read.ensures.rules c.read.ensures.names _ c.requires.0) c.show_stores.ensures

pub returns-in-Err : goal.returns-in-Err
returns-in-Err c = shown_renamed (refused_text_lem _ c.args.text.now c.requires.0 c.args.rules.now c.args.names.now c.requires.1 c.requires.2 c.read.ensures.answer c.in-Err.is) c.show_refused.ensures
