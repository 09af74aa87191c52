-- The next state over masks: candidates are walked like the choices of a verdict, with fixed atoms free, and no choice lying wholly before the start is visited (document 02, W-207).
use Rattle.std.specs.Prelude.{ℕ, ◌+◌, ◌^◌, cond, ◌||◌, List, leb, ltb}
use Rattle.walks.specs.Walk.{capped_next}
use Rattle.walks.specs.declared.answers.Verdict.{Verdict}
use Rattle.walks.specs.declared.answers.Verdict.TheVariants.{Yes, Broken, Beaten, Spent, Refused}
use Rattle.walks.specs.declared.answers.NextState.{NextState}
use Rattle.walks.specs.declared.answers.NextState.TheVariants.{State, Nothing as NoState}
use Rattle.groups.specs.Groups.{group_at, root_group, broken_in}
use Rattle.groups.specs.Plans.{classes_in, starts_in, care_in, want_in}
use Rattle.descent.specs.Descent.{Outcome, Found, Nothing, Asked, descend}
use Rattle.descent.specs.Verdicts.{preferred_m}

-- a final choice that is a model, its unit counted: the units of its verdict come on top
abbrev pub candidate : Verdict → ℕ → ℕ → Outcome
candidate (Yes w) s u = Found s (u + w)
candidate (Broken i) s u = Nothing u
candidate (Beaten t w) s u = Nothing (u + w)
candidate (Spent w) s u = Nothing u
candidate (Refused f) s u = Nothing u

abbrev pub from_start : List ℕ → List ℕ → List ℕ → List ℕ → ℕ → ℕ → ℕ → Asked
from_start care want starts classes fixed n start = record {
  visits = λ k v s. v || ltb start (s + 2 ^ k);
  closes = λ k v s. broken_in care want starts (group_at k v) s;
  ends = λ s u. candidate (preferred_m care want starts classes fixed n s) s u;
}

-- by a plan
abbrev pub listed : List ℕ → ℕ → ℕ → ℕ → Asked
listed p fixed n start = from_start (care_in p) (want_in p) (starts_in p) (classes_in p) fixed n start

-- the empty choice too may lie before the start, or be closed
unfoldable pub next_outcome : List ℕ → List ℕ → List ℕ → List ℕ → ℕ → ℕ → ℕ → Outcome
next_outcome care want starts classes fixed n start =
    cond (leb (2 ^ n) start) (Nothing 0)
    (cond (broken_in care want starts root_group 0) (Nothing 1)
    (descend (from_start care want starts classes fixed n start) n 0 1))

abbrev pub next_of : Outcome → NextState
next_of (Found s u) = State s u
next_of (Nothing u) = NoState u

unfoldable pub next_m : List ℕ → List ℕ → List ℕ → List ℕ → ℕ → ℕ → ℕ → ℕ → NextState
next_m care want starts classes fixed n start budget = capped_next budget (next_of (next_outcome care want starts classes fixed n start))
