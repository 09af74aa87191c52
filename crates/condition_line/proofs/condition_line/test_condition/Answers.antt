use Rattle.std.proofs.lemmas.Result.{err_from_is_err_and}
use native.Mathlib.Omega.{arith}
use mathlib.Core.Path.{sym}
use Rattle.gathering.proofs.HeldState.{known_starts, known_index}
use Rattle.condition_line.proofs.ConditionSteps.{refused_line_lem, all_allowed, unparsed_line, few_here, deep_line, refused_line, taken_line, undeclared_line, tested}
use Rattle.condition_line.proofs.condition_line.test_condition.Goals as goal

pub invariant_of-names : goal.invariant_of-names
invariant_of-names c = record { indexed = known_index c.requires.held_index }

pub scan_condition-requires : goal.scan_condition-requires
scan_condition-requires c = c.requires.spoken_len_bound.2

pub returns-in_err-scanned : goal.returns-in_err-scanned
returns-in_err-scanned c = refused_line_lem c.in_err-scanned.ensures.value c.in_err-scanned.ensures.ok_part (err_from_is_err_and c.from_residual.result c.from_residual.ensures.1) (unparsed_line c.requires.held c.requires.held_index c.requires.spoken_len_bound.1 c.args.spoken.now c.args.name.now c.scan_condition.ensures c.in_err-scanned.ensures.ok_part)

pub returns-then-scanned : goal.returns-then-scanned
returns-then-scanned c = record { says = deep_line c.requires.held c.requires.held_index c.requires.spoken_len_bound.1 c.args.spoken.now c.args.name.now c.scan_condition.ensures c.in_ok-scanned.ensures.ok_part c.if-scanned.true }

pub returns-then-refused : goal.returns-then-refused
returns-then-refused c = record { says = refused_line c.requires.held c.requires.held_index c.requires.spoken_len_bound.1 c.args.spoken.now c.args.name.now c.scan_condition.ensures c.in_ok-scanned.ensures.ok_part c.if-scanned.false c.requires.spoken_len_bound.3 c.if-refused.true }

pub any_declared-requires : goal.any_declared-requires
any_declared-requires c =
    record {
      all = all_allowed c.requires.held c.requires.held_index c.requires.spoken_len_bound.1 c.args.spoken.now c.args.name.now;
      made_bound = (omega (arith, c.requires.held.made_fits), omega (arith, few_here c.requires.held c.requires.held_index c.requires.spoken_len_bound.1 c.args.spoken.now c.args.name.now c.scan_condition.ensures c.in_ok-scanned.ensures.ok_part c.requires.spoken_len_bound.0));
    }

pub returns-then-any_declared : goal.returns-then-any_declared
returns-then-any_declared c = record { says = taken_line c.requires.held c.requires.held_index c.requires.spoken_len_bound.1 c.args.spoken.now c.args.name.now c.scan_condition.ensures c.in_ok-scanned.ensures.ok_part c.if-scanned.false c.requires.spoken_len_bound.3 c.if-refused.false c.any_declared.ensures c.if-any_declared.true }

pub returns-then-scanned-2 : goal.returns-then-scanned-2
returns-then-scanned-2 c = record { says = undeclared_line c.requires.held c.requires.held_index c.requires.spoken_len_bound.1 c.args.spoken.now c.args.name.now c.scan_condition.ensures c.in_ok-scanned.ensures.ok_part c.if-scanned.false c.requires.spoken_len_bound.3 c.if-refused.false c.any_declared.ensures c.if-any_declared.false c.if-scanned-2.true }

pub add_condition-requires : goal.add_condition-requires
add_condition-requires c =
    record {
      tested = tested c.requires.held c.requires.held_index c.requires.spoken_len_bound.1 c.args.spoken.now c.args.name.now c.scan_condition.ensures c.in_ok-scanned.ensures.ok_part c.if-scanned.false c.requires.spoken_len_bound.3 c.if-refused.false c.any_declared.ensures c.if-any_declared.false c.if-scanned-2.false c.requires.spoken_len_bound.0;
      held = c.requires.held;
      held_index = c.requires.held_index;
    }
