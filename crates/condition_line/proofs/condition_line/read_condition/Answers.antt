use Rattle.std.proofs.lemmas.Result.{err_from_is_err_and}
use Rattle.condition_line.proofs.ConditionSteps.{refused_line_lem, broken_line, condition_places, places_fit, line_here}
use Rattle.condition_line.proofs.condition_line.read_condition.Goals as goal

pub returns-in_err-places : goal.returns-in_err-places
returns-in_err-places c = refused_line_lem c.in_err-places.ensures.value c.in_err-places.ensures.ok_part (err_from_is_err_and c.from_residual.result c.from_residual.ensures.1) (broken_line c.args.line.now c.condition_at.ensures _ c.in_err-places.ensures.ok_part)

pub slice_bounds-test_condition-count : goal.slice_bounds-test_condition-count
slice_bounds-test_condition-count c = (places_fit c.args.line.now c.condition_at.ensures c.in_ok-places.ensures.ok_part).0

pub slice_bounds-test_condition-start : goal.slice_bounds-test_condition-start
slice_bounds-test_condition-start c = (places_fit c.args.line.now c.condition_at.ensures c.in_ok-places.ensures.ok_part).0

pub slice_bounds-test_condition-end : goal.slice_bounds-test_condition-end
slice_bounds-test_condition-end c = (places_fit c.args.line.now c.condition_at.ensures c.in_ok-places.ensures.ok_part).1

pub slice_bounds-test_condition-count-2 : goal.slice_bounds-test_condition-count-2
slice_bounds-test_condition-count-2 c = (places_fit c.args.line.now c.condition_at.ensures c.in_ok-places.ensures.ok_part).2

pub slice_bounds-test_condition-start-2 : goal.slice_bounds-test_condition-start-2
slice_bounds-test_condition-start-2 c = (places_fit c.args.line.now c.condition_at.ensures c.in_ok-places.ensures.ok_part).2

pub slice_bounds-test_condition-end-2 : goal.slice_bounds-test_condition-end-2
slice_bounds-test_condition-end-2 c = (places_fit c.args.line.now c.condition_at.ensures c.in_ok-places.ensures.ok_part).3

pub test_condition-requires : goal.test_condition-requires
test_condition-requires c =
    record {
      spoken_len_bound = ((condition_places c.args.line.now c.condition_at.ensures c.in_ok-places.ensures.ok_part).0 c.requires.line_len_bound.0, c.requires.line_len_bound.1, (condition_places c.args.line.now c.condition_at.ensures c.in_ok-places.ensures.ok_part).1, (condition_places c.args.line.now c.condition_at.ensures c.in_ok-places.ensures.ok_part).2);
      held = c.requires.held;
      held_index = c.requires.held_index;
    }

pub returns : goal.returns
returns c = line_here c.args.line.now c.condition_at.ensures c.in_ok-places.ensures.ok_part c.test_condition.ensures
