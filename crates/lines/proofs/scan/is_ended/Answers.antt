use Prim.Native.Nat.{◌-◌, ◌<◌}
use mathlib.Core.Path.{◌≡◌}
use mathlib.Core.Bool.{false}
use lib.Dec.{eqb}
use lib.ListN.{length, get_or}
use Rattle.std.specs.Prelude.{MatchOption}
use Rattle.std.proofs.Common.{rules, tests}
use Rattle.kinds.specs.Words.{line_end_lem}
use Rattle.lines.proofs.Scanning.{ended_is}
use Rattle.lines.proofs.scan.is_ended.Goals as goal

pub returns : goal.returns
returns c =
    let l = c.args.line.now in
    let m : MatchOption c.last.result (length l ≡ 0) (λ x. (0 < length l) × (x.now ≡ get_or l (length l - 1) 0)) = search (rules, tests) in
    let n : MatchOption c.last.result (c.eq.result ≡ false) (λ x. c.eq.result ≡ eqb x.now line_end_lem) = search (rules, tests) in
    ended_is l (λ x. x.now) c.last.result m n
