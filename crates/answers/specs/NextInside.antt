-- Where the next state stands, as a listing needs it.
use Rattle.std.specs.Prelude.{ℕ, ◌≤◌, ◌<◌, ◌≡◌}
use Rattle.walks.specs.declared.answers.NextState.{NextState}
use Rattle.walks.specs.declared.answers.NextState.TheVariants.{State}

-- a next state has its place at its start or after it, below the top
abbrev pub Inside : (ℕ → ℕ) → (ℕ → NextState) → ℕ → Type 0
Inside place next top = (t s u : ℕ) → t ≤ top → next t ≡ State s u → (t ≤ place s) × (place s < top)
