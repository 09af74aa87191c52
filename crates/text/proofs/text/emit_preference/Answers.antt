use Rattle.text.proofs.TextParts.{header, words_inside, class_words_lem, preference_rules, classes_ahead}
use Rattle.text.proofs.AtomItems.{last_run}
use Rattle.output.proofs.Emitting.{start, turn, finish, range_begin, range_here}
use native.Mathlib.Omega.{arith}
use mathlib.Core.Path.{refl}
use Rattle.text.proofs.text.emit_preference.Goals as goal

pub bounds-rules-1 : goal.bounds-rules-1
bounds-rules-1 c = omega (arith, header c.requires.0)

pub bounds-rules-2 : goal.bounds-rules-2
bounds-rules-2 c = omega (arith, header c.requires.0)

pub bounds-rules-3 : goal.bounds-rules-3
bounds-rules-3 c = omega (arith, header c.requires.0)

pub slice_bounds-emit_classes-end : goal.slice_bounds-emit_classes-end
slice_bounds-emit_classes-end c = omega (arith, words_inside c.requires.0 c.requires.1)

pub emit_classes-declared-requires : goal.emit_classes-declared-requires
emit_classes-declared-requires c = (class_words_lem c.requires.0 c.requires.1, range_begin c.requires.0.range (classes_ahead c.requires.0 c.requires.1))

pub slice_bounds-emit_rules-count : goal.slice_bounds-emit_rules-count
slice_bounds-emit_rules-count c = omega (arith, words_inside c.requires.0 c.requires.1)

pub slice_bounds-emit_rules-start : goal.slice_bounds-emit_rules-start
slice_bounds-emit_rules-start c = omega (arith, words_inside c.requires.0 c.requires.1)

pub emit_rules-requires : goal.emit_rules-requires
emit_rules-requires c = (preference_rules c.requires.0 c.requires.1, range_here (turn (start c.requires.0.range) (classes_ahead c.requires.0 c.requires.1) c.emit_classes-declared.ensures) (last_run _))

pub returns : goal.returns
returns c = finish (turn (turn (start c.requires.0.range) (classes_ahead c.requires.0 c.requires.1) c.emit_classes-declared.ensures) (last_run _) c.emit_rules.ensures) refl
