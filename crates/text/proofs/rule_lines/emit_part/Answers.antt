use Rattle.text.proofs.RuleItems.{part_opens}
use Rattle.text.proofs.AtomItems.{last_run}
use Rattle.output.proofs.Emitting.{start, turn, finish, range_begin, range_here}
use mathlib.Core.Path.{refl}
use Rattle.text.proofs.rule_lines.emit_part.Goals as goal

pub emit-opened-requires : goal.emit-opened-requires
emit-opened-requires c = range_begin c.requires.1 (part_opens _ _ _)

pub emit_atoms-requires : goal.emit_atoms-requires
emit_atoms-requires c = (c.requires.0, range_here (turn (start c.requires.1) (part_opens _ _ _) c.emit-opened.ensures) (last_run _))

pub returns : goal.returns
returns c = finish (turn (turn (start c.requires.1) (part_opens _ _ _) c.emit-opened.ensures) (last_run _) c.emit_atoms.ensures) refl
