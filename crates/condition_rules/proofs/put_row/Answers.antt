use Rattle.condition_rules.proofs.RowRules.{not_row_put, and_row_put, or_row_put}
use Rattle.condition_rules.proofs.put_row.Goals as goal

pub returns-in-Not : goal.returns-in-Not
returns-in-Not c = not_row_put c.args.row c.args.atom c.in-Not.is c.put_not.ensures

pub returns-in-And : goal.returns-in-And
returns-in-And c = and_row_put c.args.row c.args.atom c.in-And.is c.put_and.ensures

pub returns-in-Or : goal.returns-in-Or
returns-in-Or c = or_row_put c.args.row c.args.atom c.in-Or.is c.put_or.ensures
