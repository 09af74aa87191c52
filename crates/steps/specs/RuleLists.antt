-- The lists of a rule that steps 2 and 3 go over.
use Rattle.std.specs.Prelude.{ℕ, ◌≤◌, ◌<◌, List, length}
use Rattle.kinds.specs.Limits.{atom_limit, occurrence_limit}
use Rattle.kinds.specs.declared.limits.Kind.TheVariants.{Plain, Preference}
use Rattle.rules.specs.Lists.{All}

-- the head and the body of a rule of a preference file
pub record RuleLists (heads bodies : List ℕ) : Type 0 where
  pub few_heads : length heads ≤ occurrence_limit Plain
  pub few_bodies : length bodies ≤ occurrence_limit Plain
  pub heads_below : All (λ a. a < atom_limit Preference) heads
  pub bodies_below : All (λ a. a < atom_limit Preference) bodies
