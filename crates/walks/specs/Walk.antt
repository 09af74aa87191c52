-- The walks, their units and the answers (document 01, "Verdicts"; document 02, W-207: a walk goes no deeper once some rule is broken).
use Rattle.std.specs.Prelude.{ℕ, suc, ◌+◌, Bool, true, not, cond, ◌&&◌, ◌||◌, List, [], ◌∷◌, eqb, leb, length, get_or}
use Rattle.kinds.specs.Limits.{fixed}
use Rattle.rules.specs.Lists.{filter}
use Rattle.rules.specs.Sets.{has}
use Rattle.rules.specs.Rules.{Rule, reduct, is_model, first_broken}
use Rattle.rules.specs.Preferred.{is_same, is_beating}
use Rattle.choices.specs.Choices.{Choice, Course, is_closed, visited, is_final, is_set, is_before}
use Rattle.walks.specs.declared.answers.Verdict.{Verdict}
use Rattle.walks.specs.declared.answers.Verdict.TheVariants.{Yes, Broken, Beaten, Spent, Refused}
use Rattle.walks.specs.declared.answers.NextState.{NextState}
use Rattle.walks.specs.declared.answers.NextState.TheVariants.{State, Nothing, Spent as NextSpent, Refused as NextRefused}

-- fixed atoms, in their turn, take only m's value
abbrev pub preferred_course : List ℕ → List (Rule ℕ) → ℕ → Course
preferred_course ws rs m = record { closed = is_closed rs; may = λ a v. not (eqb (get_or ws a 0) fixed) || is_same v (has m a) }

-- atoms outside m are only out, and the rules are the reduct's
abbrev pub stable_course : List (Rule ℕ) → ℕ → Course
stable_course rs m = record { closed = is_closed (reduct rs (has m)); may = λ a v. not v || has m a }

-- fixed atoms are free
abbrev pub free_course : List (Rule ℕ) → Course
free_course rs = record { closed = is_closed rs; may = λ a v. true }

unfoldable pub preferred_walk : List ℕ → List (Rule ℕ) → ℕ → List Choice
preferred_walk ws rs m = visited (preferred_course ws rs m) (length ws) 0 0

-- the final choice m, a set of n atoms, is neither visited nor counted
unfoldable pub stable_walk : ℕ → List (Rule ℕ) → ℕ → List Choice
stable_walk n rs m = filter (λ k. not (is_set n m k)) (visited (stable_course rs m) n 0 0)

-- no choice lying wholly before the start, a place
unfoldable pub candidates : List ℕ → List (Rule ℕ) → ℕ → List Choice
candidates ws rs start = filter (λ k. not (is_before (length ws) start k)) (visited (free_course rs) (length ws) 0 0)

-- a final choice whose set passes the test
abbrev pub is_final_and : ℕ → (ℕ → Bool) → Choice → Bool
is_final_and n test k = is_final n k && test k.taken

-- the first better entry of a walk, one unit an entry; `set` gives an entry's set, and u units were counted before
unfoldable pub search : {A : Type 0} → (A → ℕ) → (A → Bool) → List A → ℕ → Verdict
search set better [] u = Yes u
search set better (x ∷ xs) u = let rest = search set better xs (suc u) in cond (better x) (Beaten (set x) (suc u)) rest

-- spent exactly when the units needed exceed the budget
unfoldable pub capped : ℕ → Verdict → Verdict
capped budget (Yes u) = cond (leb u budget) (Yes u) (Spent budget)
capped budget (Broken i) = Broken i
capped budget (Beaten s u) = cond (leb u budget) (Beaten s u) (Spent budget)
capped budget (Spent u) = Spent u
capped budget (Refused f) = Refused f

-- the verdict on m by a walk, with the units needed, whatever the budget
abbrev pub verdict_by : {A : Type 0} → (A → ℕ) → List (Rule ℕ) → ℕ → (A → Bool) → List A → Verdict
verdict_by set rs m better walk =
    let walked = search set better walk 0 in
    cond (is_model rs (has m)) walked (Broken (first_broken rs (has m)))

unfoldable pub preferred_needs : List ℕ → List (Rule ℕ) → ℕ → Verdict
preferred_needs ws rs m = verdict_by (λ k. k.taken) rs m (is_final_and (length ws) (λ s. is_beating ws rs s m)) (preferred_walk ws rs m)

unfoldable pub stable_needs : ℕ → List (Rule ℕ) → ℕ → Verdict
stable_needs n rs m = verdict_by (λ k. k.taken) rs m (is_final_and n (λ s. is_model (reduct rs (has m)) (has s))) (stable_walk n rs m)

unfoldable pub preferred_verdict : List ℕ → List (Rule ℕ) → ℕ → ℕ → Verdict
preferred_verdict ws rs m budget = capped budget (preferred_needs ws rs m)

unfoldable pub stable_verdict : ℕ → List (Rule ℕ) → ℕ → ℕ → Verdict
stable_verdict n rs m budget = capped budget (stable_needs n rs m)

-- a set costs 1 unit and, if it is a model, the units of its verdict
abbrev pub after : Verdict → ℕ → ℕ → (ℕ → NextState) → NextState
after (Yes w) s u rest = State s (suc u + w)
after (Broken i) s u rest = rest (suc u)
after (Beaten t w) s u rest = rest (suc u + w)
after (Spent w) s u rest = rest (suc u)
after (Refused f) s u rest = rest (suc u)

-- the first entry that is final and whose verdict is yes
unfoldable pub first_state : {A : Type 0} → (A → ℕ) → (A → Bool) → (ℕ → Verdict) → List A → ℕ → NextState
first_state set final verdict [] u = Nothing u
first_state set final verdict (x ∷ xs) u = cond (final x) (after (verdict (set x)) (set x) u (λ v. first_state set final verdict xs v)) (first_state set final verdict xs (suc u))

unfoldable pub capped_next : ℕ → NextState → NextState
capped_next budget (State s u) = cond (leb u budget) (State s u) (NextSpent budget)
capped_next budget (Nothing u) = cond (leb u budget) (Nothing u) (NextSpent budget)
capped_next budget (NextSpent u) = NextSpent u
capped_next budget (NextRefused f) = NextRefused f

unfoldable pub next_needs : List ℕ → List (Rule ℕ) → ℕ → NextState
next_needs ws rs start = first_state (λ k. k.taken) (is_final (length ws)) (preferred_needs ws rs) (candidates ws rs start) 0

unfoldable pub next_verdict : List ℕ → List (Rule ℕ) → ℕ → ℕ → NextState
next_verdict ws rs start budget = capped_next budget (next_needs ws rs start)
