-- Answers over places as answers over sets of n atoms (document 02, W-206): the place of a set that is told becomes the set.
use Rattle.std.specs.Prelude.{ℕ}
use Rattle.places.specs.Places.{set_at}
use Rattle.walks.specs.declared.answers.Verdict.{Verdict}
use Rattle.walks.specs.declared.answers.Verdict.TheVariants.{Yes, Broken, Beaten, Spent, Refused}
use Rattle.walks.specs.declared.answers.NextState.{NextState}
use Rattle.walks.specs.declared.answers.NextState.TheVariants.{State, Nothing, Spent as NextSpent, Refused as NextRefused}

unfoldable pub verdict_at : ℕ → Verdict → Verdict
verdict_at n (Yes u) = Yes u
verdict_at n (Broken i) = Broken i
verdict_at n (Beaten p u) = Beaten (set_at n p) u
verdict_at n (Spent u) = Spent u
verdict_at n (Refused f) = Refused f

unfoldable pub next_at : ℕ → NextState → NextState
next_at n (State p u) = State (set_at n p) u
next_at n (Nothing u) = Nothing u
next_at n (NextSpent u) = NextSpent u
next_at n (NextRefused f) = NextRefused f
