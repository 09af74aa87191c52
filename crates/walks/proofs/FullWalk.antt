-- What the full walks answer: the walk of one set after another, in any order, and in that of the places.
use Prim.Native.Nat.{ℕ, ◌^◌, ◌<◌}
use mathlib.Core.Path.{◌≡◌, subst}
use mathlib.Core.Logic.{◌↔◌}
use mathlib.Core.List.{List}
use native.Mathlib.Omega.{arith}
use lib.ListN.{length}
use Rattle.kinds.specs.Limits.{fixed}
use Rattle.rules.specs.Lists.{All}
use Rattle.rules.specs.Sets.{has, ProperSubset}
use Rattle.rules.specs.Rules.{Rule, Model, reduct, is_model}
use Rattle.rules.specs.Stable.{Stable}
use Rattle.rules.specs.Preferred.{Beats, Preferred, of_class, are_agreeing, is_beating}
use Rattle.rules.proofs.Rules.{model_law}
use Rattle.rules.proofs.Stable.{proper_lt}
use Rattle.rules.proofs.Preferred.{agree_law, beats_law}
use Rattle.places.specs.Places.{Earlier}
use Rattle.walks.specs.Order.{walk_order}
use Rattle.walks.specs.FullWalk.{agreeing, is_proper, proper_subsets, preferred_by, stable_by, full_preferred_needs, full_stable_needs}
use Rattle.walks.specs.Meanings.{First}
use Rattle.walks.specs.declared.answers.Verdict.{Verdict}
use Rattle.walks.specs.declared.answers.Verdict.TheVariants.{Yes, Beaten}
use Rattle.walks.proofs.Searches.{Answered}
use Rattle.walks.proofs.Order.{AllSets, all_walk_order, earliest_kept, all_agreeing, proper_law, all_proper}
use Rattle.walks.proofs.Judged.{Judged, FirstEntry, judged, says_yes}

-- an entry is its own set
abbrev pub SetsJudged : List (Rule ℕ) → ℕ → (ℕ → Type 0) → List ℕ → Type 0 → Verdict → Type 0
SetsJudged rs m P l Good v = Judged (λ s. s) 0 rs m P l Good v

entry : (P : ℕ → Type 0) (l : List ℕ) (s u : ℕ) → FirstEntry (λ s. s) 0 P l s u → (k : ℕ) × First 0 P l s k
entry P l s u f = (f.0, subst (λ (x : ℕ). First 0 P l x f.0) f.2.1 f.2.2)

module _ (ws : List ℕ) (rs : List (Rule ℕ)) (m : ℕ) where
  abbrev Beating : ℕ → Type 0
  Beating s = Beats ws rs s m

  -- among all sets, in any order
  module _ (sets : List ℕ) (all : AllSets (length ws) sets) where
    -- nothing in the walk beats m: then nothing does, for what beats m agrees with it on the fixed atoms
    pub unbeaten : (Model rs (has m) × All (λ s. Beats ws rs s m → ⊥) (agreeing ws m sets)) ↔ Preferred ws rs m
    unbeaten = (
      λ h. record { model = h.0; unbeaten = λ s l b. (all_agreeing ws m sets all (λ s. Beating s → ⊥)).0 h.1 s l b.agrees b },
      λ p. (p.model, (all_agreeing ws m sets all (λ s. Beating s → ⊥)).1 (λ s l a. p.unbeaten s l)),
    )

    pub preferred_among : SetsJudged rs m (λ s. Beats ws rs s m) (agreeing ws m sets) (Preferred ws rs m) (preferred_by ws rs m (agreeing ws m sets))
    preferred_among = judged (λ s. s) 0 rs m (λ s. is_beating ws rs s m) Beating (λ s. beats_law ws rs s m) (agreeing ws m sets) (Preferred ws rs m) unbeaten

  pub full_preferred_lem : SetsJudged rs m (λ s. Beats ws rs s m) (agreeing ws m (walk_order (length ws))) (Preferred ws rs m) (full_preferred_needs ws rs m)
  unfolding full_preferred_needs
  full_preferred_lem = preferred_among (walk_order (length ws)) (all_walk_order (length ws))

  pub full_answered : Answered (full_preferred_needs ws rs m)
  full_answered = full_preferred_lem.answered

  pub full_yes : ((u : ℕ) × (full_preferred_needs ws rs m ≡ Yes u)) ↔ Preferred ws rs m
  full_yes = says_yes full_preferred_lem

  -- no earlier set beats m
  pub full_earliest : (s u : ℕ) → full_preferred_needs ws rs m ≡ Beaten s u → (t : ℕ) → t < 2 ^ length ws → Earlier (length ws) t s → Beats ws rs t m → ⊥
  full_earliest s u e t l g h =
      let f = entry Beating (agreeing ws m (walk_order (length ws))) s u ((full_preferred_lem.is_beaten s u).0 e).1 in
      earliest_kept Beating (length ws) (λ s. are_agreeing (of_class ws fixed) s m) s f.0 f.1 t l ((agree_law ws t m fixed).1 h.agrees) g h

module _ (n : ℕ) (rs : List (Rule ℕ)) (m : ℕ) (inside : m < 2 ^ n) where
  -- a model of the reduct
  abbrev Smaller : ℕ → Type 0
  Smaller s = Model (reduct rs (has m)) (has s)

  module _ (sets : List ℕ) (all : AllSets n sets) where
    pub minimal : (Model rs (has m) × All (λ s. Model (reduct rs (has m)) (has s) → ⊥) (proper_subsets m sets)) ↔ Stable rs m
    minimal = (
      λ h. record { model = h.0; minimal = λ s p. (all_proper n m inside sets all (λ s. Smaller s → ⊥)).0 h.1 s p },
      λ p. (p.model, (all_proper n m inside sets all (λ s. Smaller s → ⊥)).1 (λ s q. p.minimal s q)),
    )

    pub stable_among : SetsJudged rs m (λ s. Model (reduct rs (has m)) (has s)) (proper_subsets m sets) (Stable rs m) (stable_by rs m (proper_subsets m sets))
    stable_among = judged (λ s. s) 0 rs m (λ s. is_model (reduct rs (has m)) (has s)) Smaller (λ s. model_law (reduct rs (has m)) (has s)) (proper_subsets m sets) (Stable rs m) minimal

  pub full_stable_lem : SetsJudged rs m (λ s. Model (reduct rs (has m)) (has s)) (proper_subsets m (walk_order n)) (Stable rs m) (full_stable_needs n rs m)
  unfolding full_stable_needs
  full_stable_lem = stable_among (walk_order n) (all_walk_order n)

  pub full_earliest_smaller : (s u : ℕ) → full_stable_needs n rs m ≡ Beaten s u → (t : ℕ) → ProperSubset t m → Earlier n t s → Model (reduct rs (has m)) (has t) → ⊥
  full_earliest_smaller s u e t p =
      let f = entry Smaller (proper_subsets m (walk_order n)) s u ((full_stable_lem.is_beaten s u).0 e).1 in
      earliest_kept Smaller n (λ s. is_proper s m) s f.0 f.1 t (omega (arith, proper_lt t m p)) ((proper_law t m).1 p)
