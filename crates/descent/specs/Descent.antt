-- The descent over partial choices (document 02, W-207), whatever it asks of them: by recursion over the atoms left, out before in. Over masks a set is its place.
use Rattle.std.specs.Prelude.{ℕ, zero, suc, ◌+◌, ◌^◌, ◌≤◌, ◌<◌, ◌≡◌, Bool, true, false, cond}

-- what a search comes to, with the units counted
pub data Outcome : Type 0 where
  Found : ℕ → ℕ → Outcome
  Nothing : ℕ → Outcome

abbrev pub units_of : Outcome → ℕ
units_of (Found s u) = u
units_of (Nothing u) = u

-- What is asked of a choice, by the atoms left, the value of the last atom decided, and its place.
pub record Asked : Type 0 where
  pub visits : ℕ → Bool → ℕ → Bool
  pub closes : ℕ → Bool → ℕ → Bool
  -- an open final choice, its unit counted
  pub ends : ℕ → ℕ → Outcome

-- go on with the units counted, unless a set was found
abbrev pub go_on : Outcome → (ℕ → Outcome) → Outcome
go_on (Found s u) f = Found s u
go_on (Nothing u) f = f u

-- one choice, and what lies below where it is open
unfoldable pub visit : Asked → ℕ → Bool → (ℕ → ℕ → Outcome) → ℕ → ℕ → Outcome
visit t k v below s u = cond (t.visits k v s) (cond (t.closes k v s) (Nothing (suc u)) (below s (suc u))) (Nothing u)

-- an open choice with `left` atoms to be decided, its unit counted
unfoldable pub descend : Asked → ℕ → ℕ → ℕ → Outcome
descend t zero s u = t.ends s u
descend t (suc k) s u = go_on (visit t k false (λ s u. descend t k s u) s u) (λ v. visit t k true (λ s u. descend t k s u) (s + 2 ^ k) v)

-- past any units
abbrev pub found_mark : ℕ
found_mark = 2 ^ 62

-- An outcome under a budget, told as one number and as a set in place of the one before: the units, raised by the mark where a set was found within the budget; past the budget a number that is neither.
pub data Told (budget : ℕ) (o : Outcome) (before number after : ℕ) : Type 0 where
  found : (s u : ℕ) → o ≡ Found s u → u ≤ budget → number ≡ found_mark + u → after ≡ s → Told budget o before number after
  nothing : (u : ℕ) → o ≡ Nothing u → u ≤ budget → number ≡ u → after ≡ before → Told budget o before number after
  spent : budget < units_of o → budget < number → (found_mark ≤ number → found_mark + budget < number) → Told budget o before number after
