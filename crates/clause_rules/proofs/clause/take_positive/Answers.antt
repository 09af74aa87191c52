use Rattle.clause_rules.proofs.LiteralSteps.{head_room, head_taken}
use Rattle.clause_rules.proofs.clause.take_positive.Goals as goal

pub bounds-words-place : goal.bounds-words-place
bounds-words-place c = head_room c.requires.held_clauses

pub returns : goal.returns
returns c = head_taken c.requires.held_clauses c.requires.marked c.requires.atom_lt_atoms c.if-marks-atom.false c.if-counts-eq-OCCURRENCES.false
