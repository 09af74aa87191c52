-- A class cut in two (document 02, W-214).
use Rattle.std.specs.Prelude.{ℕ, suc, ◌≤◌, ◌<◌, ◌≡◌, List, ◌⊎◌, ◌≢◌, length, get_or}
use Rattle.kinds.specs.Limits.{class_limit}
use Rattle.rules.specs.Rules.{Rule}
use Rattle.rules.specs.Preferred.{Preferred}

-- ws' cuts class i of ws in two: each of its atoms stays or goes to a new class directly behind it, and the later classes move up by one; class 16 is free for that
pub record CutClass (i : ℕ) (ws ws' : List ℕ) : Type 0 where
  pub is_class_holds : (1 ≤ i) × (i ≤ class_limit)
  pub size : length ws' ≡ length ws
  pub room : (a : ℕ) → a < length ws → get_or ws a 0 ≢ class_limit
  pub before : (a : ℕ) → a < length ws → get_or ws a 0 < i → get_or ws' a 0 ≡ get_or ws a 0
  pub parts : (a : ℕ) → a < length ws → get_or ws a 0 ≡ i → (get_or ws' a 0 ≡ i) ⊎ (get_or ws' a 0 ≡ suc i)
  pub later : (a : ℕ) → a < length ws → i < get_or ws a 0 → get_or ws a 0 ≤ class_limit → get_or ws' a 0 ≡ suc (get_or ws a 0)
  pub others : (a : ℕ) → a < length ws → class_limit < get_or ws a 0 → get_or ws' a 0 ≡ get_or ws a 0

-- every set preferred by ws' is preferred by ws
abbrev pub NoneNew : List ℕ → List ℕ → List (Rule ℕ) → Type 0
NoneNew ws ws' rs = (m : ℕ) → Preferred ws' rs m → Preferred ws rs m
