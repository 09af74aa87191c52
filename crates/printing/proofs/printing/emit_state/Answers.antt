use Rattle.printing.proofs.PrintedLines.{state_opens}
use Rattle.text.proofs.AtomItems.{last_run}
use Rattle.output.proofs.Emitting.{start, turn, finish, range_begin, range_here, in_front_lem}
use mathlib.Core.Path.{refl}
use Rattle.name_store.proofs.NamePlaces.{length_decode}
use Rattle.printing.proofs.printing.emit_state.Goals as goal

pub emit-opened-requires : goal.emit-opened-requires
emit-opened-requires c = range_begin c.requires.1 (state_opens _ _ _ (length_decode _ _))

pub emit_members-listed-requires : goal.emit_members-listed-requires
emit_members-listed-requires c = (c.requires.0, range_here (turn (start c.requires.1) (state_opens _ _ _ (length_decode _ _)) c.emit-opened.ensures) (in_front_lem _ _))

pub emit-requires : goal.emit-requires
emit-requires c = range_here (turn (turn (start c.requires.1) (state_opens _ _ _ (length_decode _ _)) c.emit-opened.ensures) (in_front_lem _ _) c.emit_members-listed.ensures) (last_run _)

pub returns : goal.returns
returns c = finish (turn (turn (turn (start c.requires.1) (state_opens _ _ _ (length_decode _ _)) c.emit-opened.ensures) (in_front_lem _ _) c.emit_members-listed.ensures) (last_run _) c.emit.ensures) refl
