-- "The preferred states, cut to the planner's atoms, are those of the conditions read directly, each from just one state" (document 02, W-208).
use Rattle.std.specs.Prelude.{ℕ, ◌+◌, ◌*◌, ◌^◌, ◌≤◌, ◌<◌, ◌≡◌, List, ◌↔◌, length}
use Rattle.rules.specs.Preferred.{Preferred}
use Rattle.stores.specs.Program.{Program}
use Rattle.restriction.specs.PreferredLeft.{cut_to}
use Rattle.conditions.specs.Conditions.{Statement, made_atoms}
use Rattle.conditions.specs.Readings.{DirectSet}
use Rattle.conditions.specs.Numbers.{unfixed, planner_places}

-- a set of the written program's atoms, cut to the planner's
abbrev pub cut_to_planner : List ℕ → List Statement → ℕ → ℕ
cut_to_planner ws ls t = cut_to (planner_places (unfixed ws) (length (made_atoms ls)) (length ws)) t

-- by its preferred sets program p is what class words ws and statements ls say directly
pub record DirectReading (ws : List ℕ) (ls : List Statement) (p : Program) : Type 0 where
  pub paired : (s : ℕ) → s < 2 ^ length ws → DirectSet ws ls s ↔ ((t : ℕ) × (t < 2 ^ p.atoms) × Preferred p.words p.rules t × (cut_to_planner ws ls t ≡ s))
  pub only_one : (t u : ℕ) → t < 2 ^ p.atoms → u < 2 ^ p.atoms → Preferred p.words p.rules t → Preferred p.words p.rules u → cut_to_planner ws ls t ≡ cut_to_planner ws ls u → t ≡ u
  -- "added are one atom and at most three rules a connective, and one rule a condition": a statement is a rule or a condition
  pub atoms : p.atoms ≡ length ws + length (made_atoms ls)
  pub rules : length p.rules ≤ length ls + 3 * length (made_atoms ls)
