use Rattle.translated.proofs.FileStore.{few_atoms, few_classes_lem, few_rules, long, few_words, few_m, few_q, small, file_fits, classes_fit, header_ahead, store_range}
use Rattle.text.proofs.AtomItems.{last_run}
use Rattle.output.proofs.Emitting.{start, turn, finish, range_begin, range_here}
use mathlib.Core.Path.{refl}
use native.Mathlib.Omega.{arith}
use Rattle.translated.proofs.translated_rules.translate_rules.Goals as goal

pub bounds-store-1 : goal.bounds-store-1
bounds-store-1 c = omega (arith, long c.requires)

pub bounds-store-2 : goal.bounds-store-2
bounds-store-2 c = omega (arith, long c.requires)

pub bounds-store-3 : goal.bounds-store-3
bounds-store-3 c = omega (arith, long c.requires)

pub overflow_cast-start : goal.overflow_cast-start
overflow_cast-start c = omega (arith, few_atoms c.requires)

pub overflow_add-start : goal.overflow_add-start
overflow_add-start c = omega (arith, few_atoms c.requires)

pub slice_bounds-classes-end : goal.slice_bounds-classes-end
slice_bounds-classes-end c = omega (arith, long c.requires)

pub count_minimised-minimised-requires : goal.count_minimised-minimised-requires
count_minimised-minimised-requires c = few_words c.requires

pub count_unfixed-unfixed-requires : goal.count_unfixed-unfixed-requires
count_unfixed-unfixed-requires c = few_words c.requires

pub numbered-o-requires : goal.numbered-o-requires
numbered-o-requires c = (few_atoms c.requires, few_classes_lem c.requires, few_m c.requires c.count_minimised-minimised.ensures c.count_unfixed-unfixed.ensures, few_q c.requires c.count_minimised-minimised.ensures c.count_unfixed-unfixed.ensures)

pub overflow_add-header : goal.overflow_add-header
overflow_add-header c = omega (arith, (small c.requires c.count_minimised-minimised.ensures c.count_unfixed-unfixed.ensures c.numbered-o.ensures).u_fits)

pub overflow_mul-header : goal.overflow_mul-header
overflow_mul-header c = omega (arith, few_atoms c.requires, few_classes_lem c.requires, few_rules c.requires, few_m c.requires c.count_minimised-minimised.ensures c.count_unfixed-unfixed.ensures, few_q c.requires c.count_minimised-minimised.ensures c.count_unfixed-unfixed.ensures)

pub overflow_add-header-2 : goal.overflow_add-header-2
overflow_add-header-2 c = omega (arith, few_atoms c.requires, few_classes_lem c.requires, few_rules c.requires, few_m c.requires c.count_minimised-minimised.ensures c.count_unfixed-unfixed.ensures, few_q c.requires c.count_minimised-minimised.ensures c.count_unfixed-unfixed.ensures)

pub overflow_mul-header-2 : goal.overflow_mul-header-2
overflow_mul-header-2 c = omega (arith, few_atoms c.requires, few_classes_lem c.requires, few_rules c.requires, few_m c.requires c.count_minimised-minimised.ensures c.count_unfixed-unfixed.ensures, few_q c.requires c.count_minimised-minimised.ensures c.count_unfixed-unfixed.ensures)

pub overflow_add-header-3 : goal.overflow_add-header-3
overflow_add-header-3 c = omega (arith, few_atoms c.requires, few_classes_lem c.requires, few_rules c.requires, few_m c.requires c.count_minimised-minimised.ensures c.count_unfixed-unfixed.ensures, few_q c.requires c.count_minimised-minimised.ensures c.count_unfixed-unfixed.ensures)

pub overflow_mul-header-3 : goal.overflow_mul-header-3
overflow_mul-header-3 c = omega (arith, few_atoms c.requires, few_classes_lem c.requires, few_rules c.requires, few_m c.requires c.count_minimised-minimised.ensures c.count_unfixed-unfixed.ensures, few_q c.requires c.count_minimised-minimised.ensures c.count_unfixed-unfixed.ensures)

pub overflow_add-header-4 : goal.overflow_add-header-4
overflow_add-header-4 c = omega (arith, few_atoms c.requires, few_classes_lem c.requires, few_rules c.requires, few_m c.requires c.count_minimised-minimised.ensures c.count_unfixed-unfixed.ensures, few_q c.requires c.count_minimised-minimised.ensures c.count_unfixed-unfixed.ensures)

pub overflow_mul-header-4 : goal.overflow_mul-header-4
overflow_mul-header-4 c = omega (arith, few_atoms c.requires, few_classes_lem c.requires, few_rules c.requires, few_m c.requires c.count_minimised-minimised.ensures c.count_unfixed-unfixed.ensures, few_q c.requires c.count_minimised-minimised.ensures c.count_unfixed-unfixed.ensures)

pub overflow_add-header-5 : goal.overflow_add-header-5
overflow_add-header-5 c = omega (arith, few_atoms c.requires, few_classes_lem c.requires, few_rules c.requires, few_m c.requires c.count_minimised-minimised.ensures c.count_unfixed-unfixed.ensures, few_q c.requires c.count_minimised-minimised.ensures c.count_unfixed-unfixed.ensures)

pub overflow_add-header-6 : goal.overflow_add-header-6
overflow_add-header-6 c = omega (arith, few_atoms c.requires, few_classes_lem c.requires, few_rules c.requires, few_m c.requires c.count_minimised-minimised.ensures c.count_unfixed-unfixed.ensures, few_q c.requires c.count_minimised-minimised.ensures c.count_unfixed-unfixed.ensures)

pub emit-headed-requires : goal.emit-headed-requires
emit-headed-requires c = range_begin (store_range c.requires) (header_ahead c.requires c.count_minimised-minimised.ensures c.count_unfixed-unfixed.ensures c.numbered-o.ensures)

pub offset_bounds-store-start : goal.offset_bounds-store-start
offset_bounds-store-start c = omega (arith, long c.requires)

pub slice_bounds-emit_steps-count : goal.slice_bounds-emit_steps-count
slice_bounds-emit_steps-count c = omega (arith, long c.requires)

pub slice_bounds-emit_steps-start : goal.slice_bounds-emit_steps-start
slice_bounds-emit_steps-start c = omega (arith, long c.requires)

pub emit_steps-requires : goal.emit_steps-requires
emit_steps-requires c = (file_fits c.requires c.count_minimised-minimised.ensures c.count_unfixed-unfixed.ensures c.numbered-o.ensures, classes_fit c.requires c.count_minimised-minimised.ensures c.count_unfixed-unfixed.ensures c.numbered-o.ensures, range_here (turn (start (store_range c.requires)) (header_ahead c.requires c.count_minimised-minimised.ensures c.count_unfixed-unfixed.ensures c.numbered-o.ensures) c.emit-headed.ensures) (last_run _))

pub returns : goal.returns
returns c = finish (turn (turn (start (store_range c.requires)) (header_ahead c.requires c.count_minimised-minimised.ensures c.count_unfixed-unfixed.ensures c.numbered-o.ensures) c.emit-headed.ensures) (last_run _) c.emit_steps.ensures) refl
