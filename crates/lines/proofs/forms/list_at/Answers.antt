use Rattle.lines.proofs.NameLists.{opened_inside, list_there, list_absent}
use Rattle.lines.proofs.forms.list_at.Goals as goal

pub returns-in_err-from : goal.returns-in_err-from
returns-in_err-from c = rw c.from_residual.ensures (list_absent c.args.word.now c.args.s.now c.args.at c.opened_at.ensures c.args.kind c.in_err-from.was)

pub names_at-requires : goal.names_at-requires
names_at-requires c = opened_inside c.args.word.now c.args.s.now c.args.at c.opened_at.ensures c.in_ok-from.was

pub returns : goal.returns
returns c = list_there c.args.word.now c.args.s.now c.args.at c.opened_at.ensures c.args.kind c.in_ok-from.was c.names_at.ensures
