use Prim.Native.Nat.{◌+◌, ◌<◌, ◌≤◌}
use native.Mathlib.Omega.{arith}
use mathlib.Core.Path.{◌≡◌}
use mathlib.Core.Bool.{true}
use lib.ListN.{length, get_or}
use Rattle.std.specs.Prelude.{MatchOption}
use Rattle.std.proofs.Common.{rules, tests}
use Rattle.lines.specs.Tokens.{is_ending}
use Rattle.lines.proofs.BracketPlaces.{gap_inside, nothing_is}
use Rattle.lines.proofs.scan.nothing_at.Goals as goal

pub overflow_add-i : goal.overflow_add-i
overflow_add-i c = omega (arith, gap_inside c.args.s.now c.args.at c.gap_at.ensures c.requires)

pub returns : goal.returns
returns c =
    let i = c.args.at + c.gap_at.result in
    let m : MatchOption c.get.result (length c.args.s.now ≤ i) (λ x. (i < length c.args.s.now) × (x.now ≡ get_or c.args.s.now i 0)) = search (rules, tests) in
    let n : MatchOption c.get.result (c.is_none_or.result ≡ true) (λ x. c.is_none_or.result ≡ is_ending x.now) = search (rules, tests) in
    nothing_is c.args.s.now c.args.at c.gap_at.ensures (λ x. x.now) c.get.result m n
