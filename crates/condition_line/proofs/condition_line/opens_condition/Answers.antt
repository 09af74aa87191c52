use Prim.Native.Nat.{ℕ, zero-le}
use native.Mathlib.Omega.{arith}
use mathlib.Core.Bool.{true, false}
use mathlib.Core.Path.{◌≡◌, sym, ap, ◌∙◌}
use Rattle.gathering.specs.Gathered.{opens_condition}
use Rattle.lines.proofs.ConditionLines.{whole_when}
use Rattle.condition_line.proofs.ConditionSteps.{opens}
use Rattle.condition_line.proofs.condition_line.opens_condition.Goals as goal
use Rattle.condition_line.proofs.condition_line.opens_condition.Goals.{in-Preference, in_default}

pub opened_at-requires : goal.opened_at-requires
opened_at-requires c = (zero-le, whole_when)

pub returns-then-matches : goal.returns-then-matches
returns-then-matches c =
    elim c.match-matches.branch [
      | in-Preference w ↦ c.is_some.ensures ∙ opens c.args.line.now c.opened_at.result c.opened_at.ensures ∙ sym (ap (λ k. opens_condition k c.args.line.now) w.in-Preference.is)
      | in_default w ↦ absurd (let e : true ≡ false = sym c.if-matches.true ∙ w.matches-is in let z : ◌≡◌ {A = ℕ} 0 1 = cc in omega arith)
    ]
