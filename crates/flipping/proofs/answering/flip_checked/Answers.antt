use Rattle.flipping.proofs.FlipRoom.{answer_inside, answer_range, no_room, copied}
use Rattle.rule_index.proofs.RulePlaces.{placed_front}
use lib.Seq.{length-take-le}
use mathlib.Core.Path.{sym}
use native.Mathlib.Omega.{arith}
use Rattle.flipping.proofs.answering.flip_checked.Goals as goal

pub slice_bounds-fill_list-end : goal.slice_bounds-fill_list-end
slice_bounds-fill_list-end c = sym (length-take-le _ _ (omega (arith, c.requires.checked.0.read.few_rules, c.requires.rule_limit_in_bounds.0)))

pub fill_list-size-requires : goal.fill_list-size-requires
fill_list-size-requires c = (c.requires.checked.0, placed_front c.requires.checked.1, length-take-le _ _ (omega (arith, c.requires.checked.0.read.few_rules, c.requires.rule_limit_in_bounds.0)))

pub returns-then-out-size : goal.returns-then-out-size
returns-then-out-size c =
    let r = no_room c.requires.checked.0 c.fill_list-size.ensures c.requires.rule_limit_in_bounds.1 _ c.if-out-size.true in
    record {
      answer = r.0;
      output = r.1;
    }

pub slice_bounds-emit-end : goal.slice_bounds-emit-end
slice_bounds-emit-end c = answer_inside c.requires.checked.0 c.fill_list-size.ensures c.requires.rule_limit_in_bounds.1

pub slice_bounds-emit-end-2 : goal.slice_bounds-emit-end-2
slice_bounds-emit-end-2 c = sym (length-take-le _ _ (answer_inside c.requires.checked.0 c.fill_list-size.ensures c.requires.rule_limit_in_bounds.1))

pub emit-requires : goal.emit-requires
emit-requires c = answer_range c.requires.checked.0 c.fill_list-size.ensures c.requires.rule_limit_in_bounds.1

pub returns : goal.returns
returns c =
    let r = copied c.requires.checked.0 c.fill_list-size.ensures c.requires.rule_limit_in_bounds.1 _ c.if-out-size.false c.emit.ensures in
    record {
      answer = r.0;
      output = r.1;
    }
