use Prim.Native.Nat.{◌+◌}
use mathlib.Core.Path.{sym, ◌∙◌}
use Rattle.clause_items.proofs.Gaps.{run_out, run_ends}
use Rattle.clause_items.proofs.Digits.{zero_alone, zero_led}
use Rattle.clause_items.proofs.numbers.zero_at.Goals as goal
use Rattle.clause_items.proofs.numbers.zero_at.Goals.{then-line-to-via-then-line-to, then-line-to-via-else-line-to+then-is_separator}

pub returns-then-line-to : goal.returns-then-line-to
returns-then-line-to c = zero_alone c.args.line.now c.args.at c.requires.0 c.requires.1 (
    elim c.then-line-to.branch [
      | then-line-to-via-then-line-to w ↦ run_out c.args.line.now (c.args.at + 1) w.if-line-to.true
      | then-line-to-via-else-line-to+then-is_separator w ↦ run_ends c.args.line.now (c.args.at + 1) w.if-line-to.false (sym w.is_separator.ensures ∙ w.if-is_separator.true)
    ])

pub returns : goal.returns
returns c = zero_led c.args.line.now c.args.at c.requires.0 c.requires.1 c.if-line-to.false (sym c.is_separator.ensures ∙ c.if-is_separator.false)
