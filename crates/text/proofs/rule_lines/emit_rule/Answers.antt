use Rattle.text.proofs.RuleItems.{head_ahead, body_ahead, not_ahead}
use Rattle.text.proofs.AtomItems.{last_run}
use Rattle.output.proofs.Emitting.{start, turn, finish, range_begin, range_here}
use Rattle.stores.proofs.RuleLists.{heads_below, bodies_below, nots_below}
use mathlib.Core.Path.{refl}
use Rattle.text.proofs.rule_lines.emit_rule.Goals as goal

pub emit_part-headed-requires : goal.emit_part-headed-requires
emit_part-headed-requires c = let l = c.rule_lists-lists.ensures in (heads_below c.requires.0 l.heads, range_begin c.requires.1 (head_ahead _ _ l.heads))

pub emit_part-bodied-requires : goal.emit_part-bodied-requires
emit_part-bodied-requires c = let l = c.rule_lists-lists.ensures in (bodies_below c.requires.0 l.bodies, range_here (turn (start c.requires.1) (head_ahead _ _ l.heads) c.emit_part-headed.ensures) (body_ahead _ _ l.bodies))

pub emit_part-negated-requires : goal.emit_part-negated-requires
emit_part-negated-requires c =
    let l = c.rule_lists-lists.ensures in
    (nots_below c.requires.0 l.nots, range_here (turn (turn (start c.requires.1) (head_ahead _ _ l.heads) c.emit_part-headed.ensures) (body_ahead _ _ l.bodies) c.emit_part-bodied.ensures) (not_ahead _ _ l.nots))

pub emit-requires : goal.emit-requires
emit-requires c =
    let l = c.rule_lists-lists.ensures in
    range_here (turn (turn (turn (start c.requires.1) (head_ahead _ _ l.heads) c.emit_part-headed.ensures) (body_ahead _ _ l.bodies) c.emit_part-bodied.ensures) (not_ahead _ _ l.nots) c.emit_part-negated.ensures) (last_run _)

pub returns : goal.returns
returns c =
    let l = c.rule_lists-lists.ensures in
    finish (turn (turn (turn (turn (start c.requires.1) (head_ahead _ _ l.heads) c.emit_part-headed.ensures) (body_ahead _ _ l.bodies) c.emit_part-bodied.ensures) (not_ahead _ _ l.nots) c.emit_part-negated.ensures) (last_run _) c.emit.ensures) refl
