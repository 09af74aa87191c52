use Prim.Native.Nat.{◌+◌, ◌<◌}
use native.Mathlib.Omega.{arith}
use mathlib.Core.Path.{◌≡◌}
use lib.ListN.{length, get_or}
use Rattle.std.proofs.Common.{rules, tests}
use Rattle.lines.proofs.BracketPlaces.{gap_inside, closing_out, closing_here, no_closing}
use Rattle.lines.proofs.scan.closed_at.Goals as goal

pub overflow_add-i : goal.overflow_add-i
overflow_add-i c = omega (arith, gap_inside c.args.s.now c.args.at c.gap_at.ensures c.requires)

pub returns-in-Some-eq41 : goal.returns-in-Some-eq41
returns-in-Some-eq41 c =
    let l : c.args.at + c.gap_at.result < length c.args.s.now = search (rules, tests) in
    let e : get_or c.args.s.now (c.args.at + c.gap_at.result) 0 ≡ 41 = search (rules, tests) in
    closing_here c.args.s.now c.args.at c.gap_at.ensures l e

pub returns-in_default : goal.returns-in_default
returns-in_default c =
    let l : c.args.at + c.gap_at.result < length c.args.s.now = search (rules, tests) in
    no_closing c.args.s.now c.args.at c.gap_at.ensures l (λ e. c.in_default.field-0-test.1 (search (rules, tests)))

pub returns-in_default-2 : goal.returns-in_default-2
returns-in_default-2 c = closing_out c.args.s.now c.args.at c.gap_at.ensures (search (rules, tests))
