use Rattle.translated.proofs.FileStore.{few_atoms, few_classes_lem, long, few_words}
use Rattle.translated.proofs.FileNames.{stored, stored_all, few_first, few_second, names_ahead, names_range}
use Rattle.text.proofs.AtomItems.{last_run}
use Rattle.output.proofs.Emitting.{start, turn, finish, range_begin, range_here}
use mathlib.Core.Path.{refl}
use native.Mathlib.Omega.{arith}
use Rattle.translated.proofs.translated_names.translate_names.Goals as goal

pub bounds-store-1 : goal.bounds-store-1
bounds-store-1 c = omega (arith, long c.requires.0)

pub bounds-store-2 : goal.bounds-store-2
bounds-store-2 c = omega (arith, long c.requires.0)

pub overflow_cast-k : goal.overflow_cast-k
overflow_cast-k c = omega (arith, few_classes_lem c.requires.0)

pub overflow_cast-start : goal.overflow_cast-start
overflow_cast-start c = omega (arith, few_atoms c.requires.0)

pub overflow_add-start : goal.overflow_add-start
overflow_add-start c = omega (arith, few_atoms c.requires.0)

pub slice_bounds-classes-end : goal.slice_bounds-classes-end
slice_bounds-classes-end c = omega (arith, long c.requires.0)

pub count_minimised-minimised-requires : goal.count_minimised-minimised-requires
count_minimised-minimised-requires c = few_words c.requires.0

pub count_unfixed-unfixed-requires : goal.count_unfixed-unfixed-requires
count_unfixed-unfixed-requires c = few_words c.requires.0

pub emit-copied-requires : goal.emit-copied-requires
emit-copied-requires c = range_begin (names_range c.requires.0 c.requires.1) (names_ahead c.requires.0 c.requires.1 c.count_minimised-minimised.ensures c.count_unfixed-unfixed.ensures)

pub generated_names-requires : goal.generated_names-requires
generated_names-requires c = (stored_all c.requires.0 c.requires.1, stored c.requires.0 c.requires.1 _ (few_second c.requires.0 c.count_unfixed-unfixed.ensures), stored c.requires.0 c.requires.1 _ (few_first c.requires.0 c.count_minimised-minimised.ensures), few_classes_lem c.requires.0, range_here (turn (start (names_range c.requires.0 c.requires.1)) (names_ahead c.requires.0 c.requires.1 c.count_minimised-minimised.ensures c.count_unfixed-unfixed.ensures) c.emit-copied.ensures) (last_run _))

pub returns : goal.returns
returns c = finish (turn (turn (start (names_range c.requires.0 c.requires.1)) (names_ahead c.requires.0 c.requires.1 c.count_minimised-minimised.ensures c.count_unfixed-unfixed.ensures) c.emit-copied.ensures) (last_run _) c.generated_names.ensures) refl
