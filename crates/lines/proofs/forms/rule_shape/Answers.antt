use mathlib.Core.Path.{sym}
use Rattle.rules.proofs.Booleans.{or_assoc}
use Rattle.lines.proofs.NameLists.{list_is, no_list}
use Rattle.lines.proofs.LineShapes.{whole_head, whole_body, whole_not, no_head, no_body, no_not, not_ended, ruling}
use Rattle.lines.proofs.forms.rule_shape.Goals as goal

pub list_at-requires : goal.list_at-requires
list_at-requires c = (c.requires, whole_head)

pub returns-in_default : goal.returns-in_default
returns-in_default c = no_head c.args.kind c.args.line.now c.args.from (no_list c.list_at.ensures c.in_default.is)

pub list_at-requires-2 : goal.list_at-requires-2
list_at-requires-2 c = ((list_is c.list_at.ensures c.in-Some.is).inside, whole_body)

pub returns-in_default-list_at : goal.returns-in_default-list_at
returns-in_default-list_at c = no_body c.args.kind c.args.line.now c.args.from (list_is c.list_at.ensures c.in-Some.is) (no_list c.list_at-2.ensures c.in_default-list_at.is)

pub list_at-requires-3 : goal.list_at-requires-3
list_at-requires-3 c = ((list_is c.list_at-2.ensures c.in-Some-list_at.is).inside, whole_not)

pub returns-in_default-list_at-2 : goal.returns-in_default-list_at-2
returns-in_default-list_at-2 c = no_not c.args.kind c.args.line.now c.args.from (list_is c.list_at.ensures c.in-Some.is) (list_is c.list_at-2.ensures c.in-Some-list_at.is) (no_list c.list_at-3.ensures c.in_default-list_at-2.is)

pub closes_line-requires : goal.closes_line-requires
closes_line-requires c = (list_is c.list_at-3.ensures c.in-Some-list_at-2.is).inside

pub returns-then-closes_line : goal.returns-then-closes_line
returns-then-closes_line c = ruling c.args.kind c.args.line.now c.args.from (list_is c.list_at.ensures c.in-Some.is) (list_is c.list_at-2.ensures c.in-Some-list_at.is) (list_is c.list_at-3.ensures c.in-Some-list_at-2.is) c.closes_line.ensures c.if-closes_line.true (sym (or_assoc c.in-Some.head.refused c.in-Some-list_at.body.refused c.in-Some-list_at-2.not.refused))

pub returns : goal.returns
returns c = not_ended c.args.kind c.args.line.now c.args.from (list_is c.list_at.ensures c.in-Some.is) (list_is c.list_at-2.ensures c.in-Some-list_at.is) (list_is c.list_at-3.ensures c.in-Some-list_at-2.is) c.closes_line.ensures c.if-closes_line.false
