use Rattle.remaining_stores.proofs.Leaving.{kept_word, left_word}
use mathlib.Core.Path.{sym}
use Rattle.output.proofs.Emitting.{none, renamed, range_renamed}
use Rattle.remaining_stores.proofs.left.put_class.Goals as goal

pub push-requires : goal.push-requires
push-requires c = range_renamed c.requires (kept_word _ c.if-kept.true)

pub returns-then-kept : goal.returns-then-kept
returns-then-kept c = renamed c.push.ensures (sym (kept_word _ c.if-kept.true))

pub returns : goal.returns
returns c = renamed none (left_word _ c.if-kept.false)
