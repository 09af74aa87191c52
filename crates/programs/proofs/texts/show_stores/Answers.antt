use Rattle.programs.proofs.ProgramTexts.{header, plain_refused, preference_store, preference_names, by_lister, by_translator}
use Rattle.printing.proofs.PrintedLines.{shown_renamed}
use native.Mathlib.Omega.{arith}
use Rattle.programs.proofs.texts.show_stores.Goals as goal

pub bounds-rules-0 : goal.bounds-rules-0
bounds-rules-0 c = omega (arith, header c.requires)

pub returns-then-rules-eq0 : goal.returns-then-rules-eq0
returns-then-rules-eq0 c = shown_renamed (plain_refused c.requires _ c.if-rules-eq0.true) c.show_refused.ensures

pub show_states-requires : goal.show_states-requires
show_states-requires c = (c.requires.store, (preference_store c.requires c.if-rules-eq0.false).kind, preference_names c.requires c.if-rules-eq0.false)

pub returns-then-listed : goal.returns-then-listed
returns-then-listed c = shown_renamed (by_lister c.requires c.if-rules-eq0.false c.if-listed.true) c.show_states.ensures

pub show_translation-requires : goal.show_translation-requires
show_translation-requires c = (preference_store c.requires c.if-rules-eq0.false, preference_names c.requires c.if-rules-eq0.false)

pub returns : goal.returns
returns c = shown_renamed (by_translator c.requires c.if-rules-eq0.false c.if-listed.false) c.show_translation.ensures
