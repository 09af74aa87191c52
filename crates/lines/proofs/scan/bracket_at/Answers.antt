use Prim.Native.Nat.{◌+◌, ◌<◌}
use native.Mathlib.Omega.{arith}
use lib.ListN.{length}
use Rattle.std.proofs.Common.{rules, tests}
use Rattle.lines.proofs.BracketPlaces.{gap_inside, bracket_out, no_bracket}
use Rattle.lines.proofs.scan.bracket_at.Goals as goal

pub overflow_add-i : goal.overflow_add-i
overflow_add-i c = omega (arith, gap_inside c.args.s.now c.args.at c.gap_at.ensures c.requires)

pub returns-in_default : goal.returns-in_default
returns-in_default c =
    let l : c.args.at + c.gap_at.result < length c.args.s.now = search (rules, tests) in
    no_bracket c.args.s.now c.args.at c.gap_at.ensures l (λ e. c.in_default.field-0-test.0.1 (search (rules, tests))) (λ e. c.in_default.field-0-test.1 (search (rules, tests)))

pub returns-in_default-2 : goal.returns-in_default-2
returns-in_default-2 c = bracket_out c.args.s.now c.args.at c.gap_at.ensures (search (rules, tests))
