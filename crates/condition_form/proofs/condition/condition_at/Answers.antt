use Prim.Native.Nat.{zero-le}
use Rattle.kinds.specs.Words.{when_word}
use Rattle.lines.proofs.NameLists.{opened_inside}
use Rattle.lines.proofs.LineShapes.{unended_broken, of_when}
use Rattle.lines.proofs.ConditionLines.{whole_when}
use Rattle.condition_form.proofs.ThenPlaces.{not_opened, no_form_there, last_inside, no_then_there, condition_there}
use mathlib.Core.Path.{ap}
use mathlib.Core.Bool.{not}
use Rattle.condition_form.proofs.condition.condition_at.Goals as goal

pub returns-then-not-is_ended : goal.returns-then-not-is_ended
returns-then-not-is_ended c = unended_broken c.args.line.now c.is_ended.ensures (ap not c.if-not-is_ended.true)

pub opened_at-requires : goal.opened_at-requires
opened_at-requires c = (zero-le, whole_when)

pub returns-in_err-from : goal.returns-in_err-from
returns-in_err-from c = not_opened c.args.line.now c.opened_at.ensures c.in_err-from.was c.requires

pub form_from-requires : goal.form_from-requires
form_from-requires c = opened_inside when_word c.args.line.now 0 c.opened_at.ensures c.in_ok-from.was

pub returns-in_err-walk : goal.returns-in_err-walk
returns-in_err-walk c = rw c.from_residual-in_err-walk.ensures (no_form_there (of_when c.args.line.now c.is_ended.ensures (ap not c.if-not-is_ended.false) c.opened_at.ensures c.in_ok-from.was) c.in_err-walk.ensures)

pub then_at-requires : goal.then_at-requires
then_at-requires c = last_inside (of_when c.args.line.now c.is_ended.ensures (ap not c.if-not-is_ended.false) c.opened_at.ensures c.in_ok-from.was) c.in_ok-walk.ensures

pub returns-in_err-then : goal.returns-in_err-then
returns-in_err-then c = rw c.from_residual-in_err-then.ensures (no_then_there (of_when c.args.line.now c.is_ended.ensures (ap not c.if-not-is_ended.false) c.opened_at.ensures c.in_ok-from.was) c.in_ok-walk.ensures c.in_err-then.ensures)

pub returns : goal.returns
returns c = condition_there (of_when c.args.line.now c.is_ended.ensures (ap not c.if-not-is_ended.false) c.opened_at.ensures c.in_ok-from.was) c.in_ok-walk.ensures c.in_ok-then.ensures
