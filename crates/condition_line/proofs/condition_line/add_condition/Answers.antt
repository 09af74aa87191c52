use Rattle.conditions.specs.declared.table.Connective.TheVariants.{Not}
use Rattle.conditions.specs.declared.table.TableRow.{TableRow}
use Rattle.conditions.specs.Table.{entry}
use Rattle.std.proofs.lemmas.Result.{err_from_is_err_and}
use Rattle.condition_line.proofs.ConditionSteps.{refused_line_lem}
use Prim.Native.Nat.{ℕ}
use native.Mathlib.Omega.{arith}
use mathlib.Core.Path.{sym, ◌∙◌}
use lib.ListN.{length-replicate}
use Rattle.gathering.proofs.HeldState.{held_small, known_starts, known_index}
use Rattle.condition_line.proofs.AddedCondition.{unknown_line, full_line, readable, faulty_line, put_fits, keep_fits, added_line}
use Rattle.condition_line.proofs.condition_line.add_condition.Goals as goal

pub invariant_of-names : goal.invariant_of-names
invariant_of-names c = record { indexed = known_index c.requires.held_index }

pub returns-in_err-then : goal.returns-in_err-then
returns-in_err-then c = refused_line_lem c.in_err-then.ensures.value c.in_err-then.ensures.ok_part (err_from_is_err_and c.from_residual.result c.from_residual.ensures.1) (unknown_line c.requires.held c.requires.held_index c.args.spoken.now c.args.name.now c.requires.tested c.find.ensures c.in_err-then.ensures.ok_part)

pub overflow_add-atoms : goal.overflow_add-atoms
overflow_add-atoms c = let s = held_small c.requires.held in omega (arith, s.atoms, c.requires.held.made_fits, c.requires.tested.few)

pub overflow_add-atoms-2 : goal.overflow_add-atoms-2
overflow_add-atoms-2 c = let s = held_small c.requires.held in omega (arith, s.atoms, c.requires.held.made_fits, c.requires.tested.few)

pub returns-then-atoms-made-gt-ATOMS : goal.returns-then-atoms-made-gt-ATOMS
returns-then-atoms-made-gt-ATOMS c = record { says = full_line c.requires.held c.requires.held_index c.args.spoken.now c.args.name.now c.requires.tested c.find.ensures c.in_ok-then.ensures.ok_part c.if-atoms-made-gt-ATOMS.true }

pub parse_condition-requires : goal.parse_condition-requires
parse_condition-requires c = readable c.requires.held c.requires.held_index c.args.spoken.now c.args.name.now c.requires.tested c.find.ensures c.in_ok-then.ensures.ok_part c.if-atoms-made-gt-ATOMS.false (length-replicate {A = TableRow} 256 (entry Not 0 0))

pub returns-in_err-parse : goal.returns-in_err-parse
returns-in_err-parse c = refused_line_lem c.in_err-parse.ensures.value c.in_err-parse.ensures.ok_part (err_from_is_err_and c.from_residual-in_err-parse.result c.from_residual-in_err-parse.ensures.1) (faulty_line c.requires.held c.requires.held_index c.args.spoken.now c.args.name.now c.requires.tested c.find.ensures c.in_ok-then.ensures.ok_part c.if-atoms-made-gt-ATOMS.false (length-replicate {A = TableRow} 256 (entry Not 0 0)) c.parse_condition.ensures c.in_err-parse.ensures.ok_part)

pub put_condition-put-requires : goal.put_condition-put-requires
put_condition-put-requires c = put_fits c.requires.held c.requires.held_index c.args.spoken.now c.args.name.now c.requires.tested c.find.ensures c.in_ok-then.ensures.ok_part c.if-atoms-made-gt-ATOMS.false (length-replicate {A = TableRow} 256 (entry Not 0 0)) c.parse_condition.ensures c.in_ok-parse.ensures.ok_part (c.parse_condition.auto.table ∙ length-replicate {A = TableRow} 256 (entry Not 0 0))

pub keep_condition-requires : goal.keep_condition-requires
keep_condition-requires c = keep_fits c.requires.held c.requires.held_index c.args.spoken.now c.args.name.now c.requires.tested c.find.ensures c.in_ok-then.ensures.ok_part c.if-atoms-made-gt-ATOMS.false (length-replicate {A = TableRow} 256 (entry Not 0 0)) c.parse_condition.ensures c.in_ok-parse.ensures.ok_part c.put_condition-put.ensures

pub returns : goal.returns
returns c = added_line c.requires.held c.requires.held_index c.args.spoken.now c.args.name.now c.requires.tested c.find.ensures c.in_ok-then.ensures.ok_part c.if-atoms-made-gt-ATOMS.false (length-replicate {A = TableRow} 256 (entry Not 0 0)) c.parse_condition.ensures c.in_ok-parse.ensures.ok_part c.put_condition-put.ensures c.keep_condition.ensures
