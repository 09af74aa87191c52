use Prim.Native.Nat.{◌-◌}
use native.Mathlib.Omega.{arith}
use mathlib.Core.Path.{sym, ◌∙◌}
use Rattle.clause_reader.proofs.ClauseSteps.{literal_surplus, literal_beyond, literal_taken, literal_full}
use Rattle.clause_reader.proofs.clause_line.read_literal.Goals as goal

pub returns-then-is_full : goal.returns-then-is_full
returns-then-is_full c = literal_surplus c.args.line.now c.args.to c.requires.0 c.args.positive c.args.number (sym c.is_full.ensures ∙ c.if-is_full.true)

pub returns-then-atoms-number : goal.returns-then-atoms-number
returns-then-atoms-number c = literal_beyond c.args.line.now c.args.to c.requires.0 c.args.positive c.args.number c.if-atoms-number.true c.past_limit.ensures

pub returns-in-Some : goal.returns-in-Some
returns-in-Some c = literal_taken c.args.line.now c.args.to c.requires.0 c.args.positive c.args.number c.if-atoms-number.false (c.args.number - 1) (omega (arith, c.requires.2)) c.take_literal.ensures (sym c.is_full.ensures ∙ c.if-is_full.false) c.in-Some.is

pub returns-in-None : goal.returns-in-None
returns-in-None c = literal_full c.args.line.now c.args.to c.requires.0 c.args.positive c.args.number c.if-atoms-number.false (c.args.number - 1) (omega (arith, c.requires.2)) c.take_literal.ensures c.in-None.is c.past_limit-in-None.ensures
