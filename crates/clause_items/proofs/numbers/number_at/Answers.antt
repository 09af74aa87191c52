use Rattle.std.proofs.Common.{◌≡◌, ◌≤◌, ◌<◌, sym, ap, ◌∙◌, get_or, length, arith, rules}
use Rattle.names.specs.Numerals.{is_digit}
use Rattle.clause_items.proofs.Digits.{number_absent, number_wrong}
use Rattle.clause_items.proofs.numbers.number_at.Goals as goal

pub returns-in_err-first : goal.returns-in_err-first
returns-in_err-first c =
    let l : length c.args.line.now ≤ c.args.at = omega (arith, c.in_err-first.ensures.lookup) in
    rw c.from_residual.ensures (number_absent c.args.line.now c.args.at l c.requires)

pub returns : goal.returns
returns c =
    let l : c.args.at < length c.args.line.now = omega (arith, c.in_ok-first.ensures.lookup) in
    let e : c.in_ok-first.field-0.now ≡ get_or c.args.line.now c.args.at 0 = search (rules, c.in_ok-first.ensures.lookup) in
    number_wrong c.args.line.now c.args.at l (ap is_digit (sym e) ∙ sym c.is_digit.ensures ∙ c.if-is_digit.false)
