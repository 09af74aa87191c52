use native.Mathlib.Omega.{arith}
use Rattle.condition_rules.proofs.RowRules.{rows_end, rows_count, words_count, condition_put}
use Rattle.condition_rules.proofs.put_condition.Goals as goal

pub put_if-end-requires : goal.put_if-end-requires
put_if-end-requires c = omega (arith, rows_end c.args.first c.args.table.now c.put_rules-rows.ensures)

pub overflow_add-rules : goal.overflow_add-rules
overflow_add-rules c = omega (arith, rows_count c.args.first c.args.table.now c.put_rules-rows.ensures, c.requires.1)

pub overflow_mul-result : goal.overflow_mul-result
overflow_mul-result c = omega (arith, rows_count c.args.first c.args.table.now c.put_rules-rows.ensures, c.requires.1)

pub overflow_sub-result-2 : goal.overflow_sub-result-2
overflow_sub-result-2 c = omega (arith, words_count c.args.first c.args.table.now c.put_rules-rows.ensures c.put_if-end.ensures)

pub returns : goal.returns
returns c = condition_put c.args.first c.args.table.now c.put_rules-rows.ensures c.put_if-end.ensures
