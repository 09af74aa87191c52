use Rattle.remaining_stores.proofs.Leaving.{kept_name, left_name}
use mathlib.Core.Path.{sym}
use Rattle.output.proofs.Emitting.{none, renamed, range_renamed}
use Rattle.remaining_stores.proofs.left.put_name.Goals as goal

pub emit_name-requires : goal.emit_name-requires
emit_name-requires c = range_renamed c.requires (kept_name _ c.if-kept.true)

pub returns-then-kept : goal.returns-then-kept
returns-then-kept c = renamed c.emit_name.ensures (sym (kept_name _ c.if-kept.true))

pub returns : goal.returns
returns c = renamed none (left_name _ c.if-kept.false)
