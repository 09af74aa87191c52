-- The listing of a program's preferred states (document 01, "Sheets of known states").
use Rattle.std.specs.Prelude.{ℕ, zero, suc, ◌^◌, cond, List, [], ◌++◌, leb, length}
use Rattle.kinds.specs.Limits.{stream_limit, walk_atoms, budget_limit}
use Rattle.kinds.specs.declared.refusals.Refusal.TheVariants.{Output, TooManyAtoms}
use Rattle.stores.specs.Program.{Program}
use Rattle.walks.specs.declared.answers.NextState.{NextState}
use Rattle.walks.specs.declared.answers.NextState.TheVariants.{State, Nothing, Spent, Refused}
use Rattle.places.specs.Places.{place}
use Rattle.walks.specs.Walk.{next_verdict}
use Rattle.answers.specs.Printed.{refused_text, state_line, total_line, spent_line}

abbrev pub on_next : NextState → (ℕ → List ℕ) → List ℕ → List ℕ → List ℕ
on_next (State s u) more total spent = more s
on_next (Nothing u) more total spent = total
on_next (Spent u) more total spent = spent
on_next (Refused f) more total spent = []

-- the states from the start on, by what the next one is from each start, which is the place after a state's own;
-- then their number, `c` of them before, or `(spent)` in its place
unfoldable pub listing : (ℕ → ℕ) → (ℕ → NextState) → ℕ → List (List ℕ) → ℕ → ℕ → List ℕ
listing place next zero names start c = []
listing place next (suc left) names start c = on_next (next start) (λ s. state_line names s ++ listing place next left names (suc (place s)) (suc c)) (total_line c) spent_line

-- the largest budget for each next state; at most 2^n states, and one more step to see that there is none left
unfoldable pub whole_listing : Program → List (List ℕ) → List ℕ
whole_listing p names = listing (place p.atoms) (λ t. next_verdict p.words p.rules t budget_limit) (suc (2 ^ p.atoms)) names 0 0

-- a text past the size of an output is refused
abbrev pub streamed : List ℕ → List ℕ
streamed text = cond (leb (length text) stream_limit) text (refused_text Output 0)

-- over 60 atoms are refused
unfoldable pub states_of : Program → List (List ℕ) → List ℕ
states_of p names = cond (leb p.atoms walk_atoms) (streamed (whole_listing p names)) (refused_text TooManyAtoms 0)
