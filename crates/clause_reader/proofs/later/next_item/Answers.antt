use mathlib.Core.Path.{refl}
use Rattle.clause_reader.proofs.LaterSteps.{later_stop, later_broken, later_ended, later_ended_surplus, later_taken, later_taken_surplus}
use Rattle.clause_reader.proofs.later.next_item.Goals as goal

pub returns-in-Stop : goal.returns-in-Stop
returns-in-Stop c = later_stop c.args.line.now c.args.at c.args.atoms c.args.clauses c.args.pending c.requires.0 c.item_at.ensures c.in-Stop.is c.requires.2 refl

pub returns-in-Broken : goal.returns-in-Broken
returns-in-Broken c = later_broken c.args.line.now c.args.at c.args.atoms c.args.clauses c.args.pending c.requires.0 c.item_at.ensures c.in-Broken.is

pub returns-in_err-begun-in-Ends : goal.returns-in_err-begun-in-Ends
returns-in_err-begun-in-Ends c = rw c.from_residual.ensures (later_ended_surplus c.args.line.now c.args.at c.args.atoms c.args.clauses c.args.pending c.requires.0 c.item_at.ensures c.begin.ensures c.in-Ends.is c.in_err-begun-in-Ends.was)

pub returns-in_ok-begun-in-Ends : goal.returns-in_ok-begun-in-Ends
returns-in_ok-begun-in-Ends c = later_ended c.args.line.now c.args.at c.args.atoms c.args.clauses c.args.pending c.requires.0 c.item_at.ensures c.begin.ensures c.in-Ends.is c.in_ok-begun-in-Ends.was

pub returns-in_err-begun-in-Literal : goal.returns-in_err-begun-in-Literal
returns-in_err-begun-in-Literal c = rw c.from_residual-in_err-begun-in-Literal.ensures (later_taken_surplus c.args.line.now c.args.at c.args.atoms c.args.clauses c.args.pending c.requires.0 c.item_at.ensures c.begin-in-Literal.ensures c.in-Literal.is c.in_err-begun-in-Literal.was)

pub returns-then-pending : goal.returns-then-pending
returns-then-pending c = later_taken c.args.line.now c.args.at c.args.atoms c.args.clauses c.args.pending c.requires.0 c.item_at.ensures c.begin-in-Literal.ensures c.in-Literal.is c.requires.1 c.in_ok-begun-in-Literal.was (rw c.if-pending.true)

pub returns-else-pending : goal.returns-else-pending
returns-else-pending c = later_taken c.args.line.now c.args.at c.args.atoms c.args.clauses c.args.pending c.requires.0 c.item_at.ensures c.begin-in-Literal.ensures c.in-Literal.is c.requires.1 c.in_ok-begun-in-Literal.was (rw c.if-pending.false)
