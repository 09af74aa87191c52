use Rattle.translated.proofs.NameLaws.{one_digit, two_digits}
use Rattle.output.proofs.Emitting.{renamed, range_renamed}
use mathlib.Core.Path.{sym}
use Rattle.translated.proofs.translated_names.end_name.Goals as goal

pub emit-requires : goal.emit-requires
emit-requires c = range_renamed c.requires.1 (one_digit _ c.if-j-lt10.true)

pub returns-then-j-lt10 : goal.returns-then-j-lt10
returns-then-j-lt10 c = renamed c.emit.ensures (sym (one_digit _ c.if-j-lt10.true))

pub emit-requires-2 : goal.emit-requires-2
emit-requires-2 c = range_renamed c.requires.1 (two_digits _ c.if-j-lt10.false c.requires.0)

pub returns : goal.returns
returns c = renamed c.emit-2.ensures (sym (two_digits _ c.if-j-lt10.false c.requires.0))
