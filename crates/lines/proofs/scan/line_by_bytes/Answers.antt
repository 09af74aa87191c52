use Prim.Native.Nat.{◌+◌, ◌-◌}
use mathlib.Core.Path.{◌≡◌, ap, ◌∙◌}
use mathlib.Core.Bool.{true, false}
use lib.Dec.{eqb}
use lib.ListN.{length, take, drop}
use Rattle.std.specs.Prelude.{MatchOption}
use Rattle.std.proofs.Common.{rules, tests}
use Rattle.std.proofs.lemmas.Iterator.{IsFirst-from_position, YieldsList-from_slice}
use Rattle.kinds.specs.Words.{line_end_lem}
use Rattle.lines.specs.Lines.{line_length}
use Rattle.lines.proofs.Scanning.{line_place, rest_is}
use Rattle.lines.proofs.scan.line_by_bytes.Goals as goal

pub returns : goal.returns
returns c =
    let rest = take (length c.args.s.now - c.args.at) (drop c.args.at c.args.s.now) in
    let n : MatchOption c.position.result (c.map_or.result ≡ length rest) (λ i. c.map_or.result ≡ i + 1) = search rules in
    line_place rest c.position.result (IsFirst-from_position _ _ _ (λ b. eqb b line_end_lem ≡ true) (λ b. eqb b line_end_lem ≡ false) c.position.ensures.ran (YieldsList-from_slice _ c.iter.ensures.rest) (λ x q k. search (rules, tests)) (λ x q k. search (rules, tests))) n
    ∙ ap line_length (rest_is c.args.s.now c.args.at)
