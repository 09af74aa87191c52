use Rattle.clause_rules.proofs.ClauseSteps.{ended}
use Rattle.clause_rules.proofs.clause.end_clause.Goals as goal

pub returns : goal.returns
returns c = ended c.requires.held_clauses c.put_counts-behind.ensures c.emit-end.ensures c.requires.rules_lt_clauses
