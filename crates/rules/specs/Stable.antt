-- Stable sets (document 01, "Verdicts"; document 000, Definition 1).
use Rattle.std.specs.Prelude.{ℕ, List, Bool, not, ◌&&◌, ◌||◌}
use Rattle.rules.specs.Lists.{every, from}
use Rattle.rules.specs.Sets.{has, ProperSubset}
use Rattle.rules.specs.Rules.{Rule, Model, reduct, is_model}

-- a model of which no proper subset is a model of the reduct
pub record Stable (rs : List (Rule ℕ)) (m : ℕ) : Type 0 where
  pub model : Model rs (has m)
  pub minimal : (x : ℕ) → ProperSubset x m → Model (reduct rs (has m)) (has x) → ⊥

-- the tests: an atom of x is below x
abbrev pub is_subset : ℕ → ℕ → Bool
is_subset x m = every (λ i. not (has x i) || has m i) (from 0 x)

abbrev pub is_stable : List (Rule ℕ) → ℕ → Bool
is_stable rs m = is_model rs (has m) && every (λ x. not (is_subset x m && is_model (reduct rs (has m)) (has x))) (from 0 m)
