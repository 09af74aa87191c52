use Prim.Native.Nat.{◌-◌}
use mathlib.Core.Path.{◌≡◌}
use lib.ListN.{length}
use Rattle.clauses.specs.Tokens.{line_tokens}
use Rattle.clauses.specs.Faults.{clause_line}
use Rattle.clause_rules.specs.HeldClauses.{held}
use Rattle.clause_reader.proofs.LineWalk.{InLine}
use Rattle.clause_reader.proofs.clause_line.read_items.Given as goal

abbrev pub invariant-loop-at : goal.invariant-loop-at
invariant-loop-at l = (length l.words ≡ length l.initial.words) × (length l.bodies ≡ length l.initial.bodies) × (length l.marks ≡ length l.initial.marks) × InLine l.line l.initial.gathered.atoms l.initial.gathered.clauses (clause_line l.initial.gathered.atoms l.initial.gathered.clauses (held l.initial.gathered l.initial.words l.initial.bodies) (line_tokens l.line)) l.gathered l.words l.bodies l.marks l.at

abbrev pub decreases-loop-at : goal.decreases-loop-at
decreases-loop-at l = length l.line - l.at
