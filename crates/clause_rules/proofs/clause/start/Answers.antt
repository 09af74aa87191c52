use Rattle.clause_rules.proofs.ClauseSteps.{started}
use Rattle.clause_rules.proofs.clause.start.Goals as goal

pub returns : goal.returns
returns c = started c.requires c.emit_copies-end.ensures
