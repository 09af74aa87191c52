-- The preferred sets of what is left are exactly the preferred sets of all atoms, cut to what is left (document 02, W-203).
use Rattle.std.specs.Prelude.{ℕ, ◌+◌, ◌*◌, ◌^◌, ◌≤◌, ◌<◌, ◌≡◌, ◌↔◌, cond, List, [], ◌∷◌, T, length}
use Rattle.kinds.specs.Limits.{class_limit}
use Rattle.rules.specs.Sets.{has, Out}
use Rattle.rules.specs.Rules.{Rule}
use Rattle.rules.specs.Preferred.{OfClass, Preferred}
use Rattle.restriction.specs.Atoms.{is_member}

-- set m cut to the atoms of a list, each by its place
abbrev pub cut_to : List ℕ → ℕ → ℕ
cut_to [] m = 0
cut_to (x ∷ xs) m = cond (has m x) 1 0 + 2 * cut_to xs m

-- m has no minimised atom that the list lacks
abbrev pub SparesOthers : List ℕ → List ℕ → ℕ → Type 0
SparesOthers xs ws m = (a j : ℕ) → 1 ≤ j → j ≤ class_limit → OfClass ws j a → (T (is_member xs a) → ⊥) → Out (has m) a

-- ws' and rs' are what the list leaves of the class words ws and the rules rs
pub record PreferredLeft (xs ws : List ℕ) (rs : List (Rule ℕ)) (ws' : List ℕ) (rs' : List (Rule ℕ)) : Type 0 where
  pub cut : (s : ℕ) → s < 2 ^ length xs → Preferred ws' rs' s ↔ ((m : ℕ) × (m < 2 ^ length ws) × Preferred ws rs m × (cut_to xs m ≡ s))
  -- varying and fixed atoms that stand in no rule are as one likes, minimised ones are out
  pub whole : (m : ℕ) → Preferred ws rs m ↔ (Preferred ws' rs' (cut_to xs m) × SparesOthers xs ws m)
