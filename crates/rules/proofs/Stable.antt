-- The test of stable sets is its definition; a stable set is a model.
use Prim.Native.Nat.{ℕ, ◌+◌, ◌≤◌, ◌<◌}
use mathlib.Core.List.{List}
use mathlib.Core.Bool.{Bool, not, ◌&&◌, ◌||◌}
use mathlib.Core.Logic.{◌↔◌}
use native.Mathlib.Omega.{arith}
use lib.Dec.{T}
use Rattle.rules.specs.Lists.{every, from}
use Rattle.rules.specs.Sets.{has, In, Subset, ProperSubset}
use Rattle.rules.specs.Rules.{Rule, Model, reduct, is_model}
use Rattle.rules.specs.Stable.{Stable, is_subset, is_stable}
use Rattle.rules.proofs.Booleans.{T_and, T-and-l, T-and-r, T-not-in, T-not-out, T-imp, T-imp-out}
use Rattle.rules.proofs.Lists.{every_from}
use Rattle.rules.proofs.Sets.{has_lt, subset_le, lt_pow}
use Rattle.rules.proofs.Rules.{model_law}

pub subset_law : (x m : ℕ) → T (is_subset x m) ↔ Subset x m
subset_law x m =
    let law = every_from (λ i. not (has x i) || has m i) (λ i. In (has x) i → In (has m) i) (λ i. (T-imp-out (has x i) (has m i), T-imp (has x i) (has m i))) 0 x in (
      λ h i t. law.0 h i (omega arith) (omega (arith, has_lt x i t)) t,
      λ h. law.1 (λ i l u. h i),
    )

pub proper_lt : (x m : ℕ) → ProperSubset x m → x < m
proper_lt x m h = let d = h.differs in omega (arith, subset_le x x m (lt_pow x) h.subset)

pub stable_model : (rs : List (Rule ℕ)) (m : ℕ) → Stable rs m → Model rs (has m)
stable_model rs m h = h.model

pub stable_law : (rs : List (Rule ℕ)) (m : ℕ) → T (is_stable rs m) ↔ Stable rs m
stable_law rs m = (there, back)
  where
    better : ℕ → Bool
    better x = is_subset x m && is_model (reduct rs (has m)) (has x)

    Better : ℕ → Type 0
    Better x = Subset x m × Model (reduct rs (has m)) (has x)

    better_law : (x : ℕ) → T (not (better x)) ↔ (Better x → ⊥)
    better_law x = (
      λ h b. T-not-out (better x) h (T_and (is_subset x m) (is_model (reduct rs (has m)) (has x)) ((subset_law x m).1 b.0) ((model_law (reduct rs (has m)) (has x)).1 b.1)),
      λ h. T-not-in (better x) (λ t. h ((subset_law x m).0 (T-and-l (is_subset x m) (is_model (reduct rs (has m)) (has x)) t), (model_law (reduct rs (has m)) (has x)).0 (T-and-r (is_subset x m) (is_model (reduct rs (has m)) (has x)) t))),
    )

    law : T (every (λ x. not (better x)) (from 0 m)) ↔ ((x : ℕ) → 0 ≤ x → x < 0 + m → Better x → ⊥)
    law = every_from (λ x. not (better x)) (λ x. Better x → ⊥) better_law 0 m

    there : T (is_stable rs m) → Stable rs m
    there h = record {
      model = (model_law rs (has m)).0 (T-and-l (is_model rs (has m)) (every (λ x. not (better x)) (from 0 m)) h);
      minimal = λ x p b. law.0 (T-and-r (is_model rs (has m)) (every (λ x. not (better x)) (from 0 m)) h) x (omega arith) (omega (arith, proper_lt x m p)) (p.subset, b);
    }

    back : Stable rs m → T (is_stable rs m)
    back h = T_and (is_model rs (has m)) (every (λ x. not (better x)) (from 0 m)) ((model_law rs (has m)).1 h.model)
        (law.1 (λ x l u b. h.minimal x (record { subset = b.0; differs = λ e. omega arith }) b.1))
