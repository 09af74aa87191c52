use Rattle.text.proofs.TextParts.{header, plain_rules, atoms_ahead}
use Rattle.text.proofs.AtomItems.{last_run}
use Rattle.output.proofs.Emitting.{start, turn, finish, range_begin, range_here}
use native.Mathlib.Omega.{arith}
use mathlib.Core.Path.{refl}
use Rattle.text.proofs.text.emit_plain.Goals as goal

pub bounds-rules-3 : goal.bounds-rules-3
bounds-rules-3 c = omega (arith, header c.requires.0)

pub emit_line-declared-requires : goal.emit_line-declared-requires
emit_line-declared-requires c = (omega arith, range_begin c.requires.0.range (atoms_ahead c.requires.0 c.requires.1))

pub slice_bounds-emit_rules-count : goal.slice_bounds-emit_rules-count
slice_bounds-emit_rules-count c = omega (arith, header c.requires.0)

pub slice_bounds-emit_rules-start : goal.slice_bounds-emit_rules-start
slice_bounds-emit_rules-start c = omega (arith, header c.requires.0)

pub emit_rules-requires : goal.emit_rules-requires
emit_rules-requires c = (plain_rules c.requires.0 c.requires.1, range_here (turn (start c.requires.0.range) (atoms_ahead c.requires.0 c.requires.1) c.emit_line-declared.ensures) (last_run _))

pub returns : goal.returns
returns c = finish (turn (turn (start c.requires.0.range) (atoms_ahead c.requires.0 c.requires.1) c.emit_line-declared.ensures) (last_run _) c.emit_rules.ensures) refl
