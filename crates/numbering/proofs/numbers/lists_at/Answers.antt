use native.Mathlib.Omega.{arith}
use mathlib.Core.Path.{sym, ◌∙◌}
use Rattle.rules.proofs.Booleans.{or_assoc}
use Rattle.kinds.specs.Words.{head_word, body_word, not_word}
use Rattle.lines.proofs.NameLists.{opened_inside}
use Rattle.lines.proofs.LineShapes.{whole_head, whole_body, whole_not}
use Rattle.numbering.proofs.RuleLists.{list_numbered, list_end, no_head, head_not_numbered, no_body, body_not_numbered, no_not, not_not_numbered, three_lists}
use Rattle.name_store.specs.IndexedNames.{names_of}
use Rattle.numbering.proofs.numbers.lists_at.Goals as goal

pub opened_at-requires : goal.opened_at-requires
opened_at-requires c = (c.requires.from_in_bounds.0, whole_head)

pub returns-in_err-head : goal.returns-in_err-head
returns-in_err-head c = rw c.from_residual.ensures (no_head (names_of c.args.names.now) c.args.line.now c.args.from c.args.stamp c.args.out.now c.args.at c.opened_at.ensures c.in_err-head.was _ _)

pub numbers_at-requires : goal.numbers_at-requires
numbers_at-requires c =
    record {
      from_in_bounds = (opened_inside head_word c.args.line.now c.args.from c.opened_at.ensures c.in_ok-head.was, c.requires.from_in_bounds.1, c.requires.from_in_bounds.2, omega (arith, c.requires.from_in_bounds.3));
      below = c.requires.below;
    }

pub returns-in_err-heads : goal.returns-in_err-heads
returns-in_err-heads c = rw c.from_residual-in_err-heads.ensures (head_not_numbered (names_of c.args.names.now) c.args.line.now c.args.from c.args.stamp c.args.out.now c.args.at c.opened_at.ensures c.in_ok-head.was c.numbers_at.ensures c.in_err-heads.was)

pub opened_at-requires-2 : goal.opened_at-requires-2
opened_at-requires-2 c = ((list_numbered c.numbers_at.ensures c.in_ok-heads.was).inside, whole_body)

pub returns-in_err-body : goal.returns-in_err-body
returns-in_err-body c = rw c.from_residual-in_err-body.ensures (no_body (names_of c.args.names.now) c.args.line.now c.args.from c.args.stamp c.args.out.now c.args.at c.opened_at.ensures c.in_ok-head.was (list_numbered c.numbers_at.ensures c.in_ok-heads.was) c.opened_at-2.ensures c.in_err-body.was)

pub overflow_add-stamp : goal.overflow_add-stamp
overflow_add-stamp c = omega (arith, c.requires.from_in_bounds.4)

pub numbers_at-requires-2 : goal.numbers_at-requires-2
numbers_at-requires-2 c =
    let h = (list_numbered c.numbers_at.ensures c.in_ok-heads.was) in
    record {
      from_in_bounds = (opened_inside body_word c.args.line.now _ c.opened_at-2.ensures c.in_ok-body.was, c.requires.from_in_bounds.1, omega (arith, c.numbers_at.auto.marks, c.requires.from_in_bounds.2), omega (arith, c.requires.from_in_bounds.3, (list_end h).1));
      below = h.numbered.below;
    }

pub returns-in_err-bodies : goal.returns-in_err-bodies
returns-in_err-bodies c = rw c.from_residual-in_err-bodies.ensures (body_not_numbered (names_of c.args.names.now) c.args.line.now c.args.from c.args.stamp c.args.out.now c.args.at c.opened_at.ensures c.in_ok-head.was (list_numbered c.numbers_at.ensures c.in_ok-heads.was) c.opened_at-2.ensures c.in_ok-body.was c.numbers_at-2.ensures c.in_err-bodies.was)

pub opened_at-requires-3 : goal.opened_at-requires-3
opened_at-requires-3 c = ((list_numbered c.numbers_at-2.ensures c.in_ok-bodies.was).inside, whole_not)

pub returns-in_err-not : goal.returns-in_err-not
returns-in_err-not c = rw c.from_residual-in_err-not.ensures (no_not (names_of c.args.names.now) c.args.line.now c.args.from c.args.stamp c.args.out.now c.args.at c.opened_at.ensures c.in_ok-head.was (list_numbered c.numbers_at.ensures c.in_ok-heads.was) c.opened_at-2.ensures c.in_ok-body.was (list_numbered c.numbers_at-2.ensures c.in_ok-bodies.was) c.opened_at-3.ensures c.in_err-not.was)

pub overflow_add-stamp-2 : goal.overflow_add-stamp-2
overflow_add-stamp-2 c = omega (arith, c.requires.from_in_bounds.4)

pub numbers_at-requires-3 : goal.numbers_at-requires-3
numbers_at-requires-3 c =
    let h = (list_numbered c.numbers_at.ensures c.in_ok-heads.was) in
    let b = (list_numbered c.numbers_at-2.ensures c.in_ok-bodies.was) in
    let room = c.numbers_at-2.auto.marks ∙ c.numbers_at.auto.marks in
    record {
      from_in_bounds = (opened_inside not_word c.args.line.now _ c.opened_at-3.ensures c.in_ok-not.was, c.requires.from_in_bounds.1, omega (arith, room, c.requires.from_in_bounds.2), omega (arith, c.requires.from_in_bounds.3, (list_end h).1, (list_end b).1));
      below = record { mark = λ a. omega (arith, b.numbered.below.mark a) };
    }

pub returns-in_err-nots : goal.returns-in_err-nots
returns-in_err-nots c = rw c.from_residual-in_err-nots.ensures (not_not_numbered (names_of c.args.names.now) c.args.line.now c.args.from c.args.stamp c.args.out.now c.args.at c.opened_at.ensures c.in_ok-head.was (list_numbered c.numbers_at.ensures c.in_ok-heads.was) c.opened_at-2.ensures c.in_ok-body.was (list_numbered c.numbers_at-2.ensures c.in_ok-bodies.was) c.opened_at-3.ensures c.in_ok-not.was c.numbers_at-3.ensures c.in_err-nots.was)

pub overflow_sub-result : goal.overflow_sub-result
overflow_sub-result c = (list_end (list_numbered c.numbers_at.ensures c.in_ok-heads.was)).0

pub overflow_sub-result-2 : goal.overflow_sub-result-2
overflow_sub-result-2 c = (list_end (list_numbered c.numbers_at-2.ensures c.in_ok-bodies.was)).0

pub overflow_sub-result-3 : goal.overflow_sub-result-3
overflow_sub-result-3 c = (list_end (list_numbered c.numbers_at-3.ensures c.in_ok-nots.was)).0

pub shape_of-marks : goal.shape_of-marks
shape_of-marks c = c.numbers_at-3.auto.marks ∙ c.numbers_at-2.auto.marks ∙ c.numbers_at.auto.marks

pub shape_of-out : goal.shape_of-out
shape_of-out c = c.numbers_at-3.auto.out ∙ c.numbers_at-2.auto.out ∙ c.numbers_at.auto.out

pub returns : goal.returns
returns c = three_lists (names_of c.args.names.now) c.args.line.now c.args.from c.args.stamp c.args.out.now c.args.at c.opened_at.ensures c.in_ok-head.was (list_numbered c.numbers_at.ensures c.in_ok-heads.was) c.opened_at-2.ensures c.in_ok-body.was (list_numbered c.numbers_at-2.ensures c.in_ok-bodies.was) c.opened_at-3.ensures c.in_ok-not.was (list_numbered c.numbers_at-3.ensures c.in_ok-nots.was) (sym (or_assoc c.in_ok-heads.heads.twice c.in_ok-bodies.bodies.twice c.in_ok-nots.nots.twice))
