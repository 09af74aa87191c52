-- The listing of all preferred states: going on from each answer (document 01, "Sheets of known states").
use Rattle.std.specs.Prelude.{ℕ, zero, suc, ◌^◌, ◌≤◌, ◌<◌, ◌≡◌, ◌⊎◌, List, [], ◌∷◌, length, get_or, take}
use Rattle.rules.specs.Lists.{All, Any, Distinct}
use Rattle.rules.specs.Rules.{Rule}
use Rattle.rules.specs.Preferred.{Preferred}
use Rattle.places.specs.Places.{place}
use Rattle.walks.specs.Order.{walk_order, preferred_sets}
use Rattle.walks.specs.Walk.{next_verdict}
use Rattle.walks.specs.declared.answers.NextState.{NextState}
use Rattle.walks.specs.declared.answers.NextState.TheVariants.{State, Nothing, Spent as NextSpent, Refused as NextRefused}

-- the entries of the first list stand in the second in this order
abbrev pub Subsequence : List ℕ → List ℕ → Type 0
Subsequence [] ys = Unit {0}
Subsequence (x ∷ xs) [] = ⊥
Subsequence (x ∷ xs) (y ∷ ys) = ((x ≡ y) × Subsequence xs ys) ⊎ Subsequence (x ∷ xs) ys

-- each preferred set once, nothing else, in the order of the walks
pub record ListsPreferred (ws : List ℕ) (rs : List (Rule ℕ)) (l : List ℕ) : Type 0 where
  pub each : (s : ℕ) → s < 2 ^ length ws → Preferred ws rs s → Any (λ x. x ≡ s) l
  pub once : Distinct l
  pub only : All (λ s. (s < 2 ^ length ws) × Preferred ws rs s) l
  pub in_order_lem : Subsequence l (walk_order (length ws))

-- the states that come of starting at a place and going on from the place after each answer's, at most k of them; `place` is that of the order
abbrev pub go_on : (ℕ → ℕ) → NextState → (ℕ → List ℕ) → List ℕ
go_on place (State s u) rest = s ∷ rest (suc (place s))
go_on place (Nothing u) rest = []
go_on place (NextSpent u) rest = []
go_on place (NextRefused f) rest = []

abbrev pub listed : (ℕ → ℕ) → (ℕ → NextState) → ℕ → ℕ → List ℕ
listed place next zero start = []
listed place next (suc k) start = go_on place (next start) (λ t. listed place next k t)

-- a step of the listing starts at 0 or right after a preferred set
abbrev pub ListingStep : (ℕ → ℕ) → List ℕ → List (Rule ℕ) → ℕ → Type 0
ListingStep place ws rs t = (t ≡ 0) ⊎ ((s : ℕ) × (t ≡ suc (place s)) × (s < 2 ^ length ws) × Preferred ws rs s)

-- no step is spent
abbrev pub NeverSpent : (ℕ → ℕ) → List ℕ → List (Rule ℕ) → (ℕ → NextState) → Type 0
NeverSpent place ws rs next = (t u : ℕ) → ListingStep place ws rs t → next t ≡ NextSpent u → ⊥

-- no step is spent, and l is the whole list
pub record Whole (ws : List ℕ) (rs : List (Rule ℕ)) (budget : ℕ) (l : List ℕ) : Type 0 where
  pub unspent : NeverSpent (place (length ws)) ws rs (λ t. next_verdict ws rs t budget)
  pub states : l ≡ preferred_sets ws rs

-- where the step after the first c states of l starts, the first step starting at `start`
abbrev pub step_after : (ℕ → ℕ) → ℕ → List ℕ → ℕ → ℕ
step_after place start l zero = start
step_after place start l (suc c) = suc (place (get_or l c 0))

-- the step after the first `count` states is spent, no earlier one is, and l has these states
pub record CutShort (ws : List ℕ) (rs : List (Rule ℕ)) (budget : ℕ) (l : List ℕ) : Type 0 where
  pub count : ℕ
  pub inside : count ≤ length (preferred_sets ws rs)
  pub step : ListingStep (place (length ws)) ws rs (step_after (place (length ws)) 0 (preferred_sets ws rs) count)
  pub spent : next_verdict ws rs (step_after (place (length ws)) 0 (preferred_sets ws rs) count) budget ≡ NextSpent budget
  pub earlier : (c u : ℕ) → c < count → next_verdict ws rs (step_after (place (length ws)) 0 (preferred_sets ws rs) c) budget ≡ NextSpent u → ⊥
  pub states : l ≡ take count (preferred_sets ws rs)
