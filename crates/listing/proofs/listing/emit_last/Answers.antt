use Rattle.listing.proofs.ListedStates.{last_total, last_spent, last_none}
use Rattle.output.proofs.Emitting.{none, renamed, range_renamed}
use mathlib.Core.Path.{sym}
use Rattle.listing.proofs.listing.emit_last.Goals as goal

pub emit_total-requires : goal.emit_total-requires
emit_total-requires c = range_renamed c.requires (sym (last_total _ c.in-Nothing.is))

pub emit-requires : goal.emit-requires
emit-requires c = range_renamed c.requires (sym (last_spent c.args.count c.in-Spent.is))

pub returns-in-Nothing : goal.returns-in-Nothing
returns-in-Nothing c = renamed c.emit_total.ensures (last_total _ c.in-Nothing.is)

pub returns-in-Spent : goal.returns-in-Spent
returns-in-Spent c = renamed c.emit.ensures (last_spent c.args.count c.in-Spent.is)

pub returns-in-State : goal.returns-in-State
returns-in-State c = renamed none (last_none c.args.count c.in-State.is)
