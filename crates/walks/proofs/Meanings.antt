-- What the answers of the two verdicts mean (document 01, "Verdicts"; document 02, W-207).
use Prim.Native.Nat.{ℕ, suc, ◌^◌, ◌≤◌, ◌<◌}
use mathlib.Core.Path.{◌≡◌, refl, sym, ap, ◌∙◌, subst}
use mathlib.Core.Logic.{◌↔◌, ◌⊎◌, inl, inr}
use mathlib.Core.Bool.{Bool, true, false, cond}
use mathlib.Core.List.{List, [], ◌∷◌, map}
use native.Mathlib.Omega.{arith}
use lib.Dec.{T, eqb→eq}
use lib.ListN.{length}
use Rattle.rules.specs.Lists.{All, keep, filter}
use Rattle.rules.specs.Sets.{has, ProperSubset}
use Rattle.rules.specs.Rules.{Rule, Model, reduct, is_model}
use Rattle.rules.specs.Stable.{Stable}
use Rattle.rules.specs.Preferred.{Beats, Preferred, is_beating}
use Rattle.rules.proofs.Booleans.{T_and, T-and-l, T-and-r, T_of, eq_to_eqb, decide}
use Rattle.rules.proofs.Lists.{all_imp}
use Rattle.rules.proofs.Rules.{model_law}
use Rattle.rules.proofs.Preferred.{beats_law}
use Rattle.places.specs.Places.{Earlier}
use Rattle.choices.specs.Choices.{Choice, choice, is_final}
use Rattle.rules.proofs.Filtered.{filter_none}
use Rattle.walks.specs.Order.{walk_order}
use Rattle.walks.specs.Walk.{is_final_and, capped, preferred_walk, stable_walk, preferred_needs, stable_needs, preferred_verdict, stable_verdict}
use Rattle.walks.specs.FullWalk.{agreeing, proper_subsets, full_preferred_needs, full_stable_needs, bare}
use Rattle.walks.specs.Meanings.{First, FinalAnd, FirstAt, ChoiceUnits, PreferredMeans, StableMeans}
use Rattle.walks.specs.declared.answers.Verdict.{Verdict}
use Rattle.walks.specs.declared.answers.Verdict.TheVariants.{Yes, Broken, Beaten, Spent, Refused}
use Rattle.walks.proofs.Searches.{Answered, units_of, capped_same}
use Rattle.walks.proofs.Order.{all_walk_order}
use Rattle.walks.proofs.Judged.{Judged, FirstEntry, Units, judged, units_counted, units_model, units_broken, says_yes, verdict_yes, verdict_broken, verdict_beaten, verdict_spent, verdict_unrefused}
use Rattle.walks.proofs.FullWalk.{unbeaten, minimal, full_earliest, full_earliest_smaller}
use Rattle.walks.proofs.Agreement.{preferred_finals, preferred_same, stable_finals, stable_same}

-- nothing is kept exactly when nothing passes

none_kept : {A : Type 0} (p : A → Bool) (l : List A) → filter p l ≡ [] → All (λ x. T (p x) → ⊥) l
none_kept p [] e = tt
none_kept p (x ∷ l) e = step (p x) refl e (none_kept p l)
  where
    step : (b : Bool) → p x ≡ b → keep b x (filter p l) ≡ [] → (filter p l ≡ [] → All (λ x. T (p x) → ⊥) l) → (T (p x) → ⊥) × All (λ x. T (p x) → ⊥) l
    step true q f r = absurd (let z : ◌≡◌ {A = ℕ} 0 1 = cc in omega arith)
    step false q f r = (λ t. T_of q t, r f)

map_none : {A : Type 0} (f : A → ℕ) (l : List A) → map f l ≡ [] → l ≡ []
map_none f [] e = refl
map_none f (x ∷ l) e = absurd (let z : ◌≡◌ {A = ℕ} 0 1 = cc in omega arith)

-- two lists with tests that keep the same sets
module _ {A : Type 0} (set : A → ℕ) (p : A → Bool) (P : A → Type 0) (law : (x : A) → T (p x) ↔ P x) (l : List A)
    (q : ℕ → Bool) (Q : ℕ → Type 0) (law₂ : (s : ℕ) → T (q s) ↔ Q s) (sets : List ℕ) (same : map set (filter p l) ≡ filter q sets) where
  none_alike : All (λ x. P x → ⊥) l ↔ All (λ s. Q s → ⊥) sets
  none_alike = (
    λ h. all_imp (λ s. T (q s) → ⊥) (λ s. Q s → ⊥) (λ s f k. f ((law₂ s).1 k)) sets (none_kept q sets (sym same ∙ ap (map set) (filter_none p l (all_imp (λ x. P x → ⊥) (λ x. T (p x) → ⊥) (λ x f t. f ((law x).0 t)) l h)))),
    λ h. all_imp (λ x. T (p x) → ⊥) (λ x. P x → ⊥) (λ x f k. f ((law x).1 k)) l (none_kept p l (map_none set (filter p l) (same ∙ filter_none q sets (all_imp (λ s. Q s → ⊥) (λ s. T (q s) → ⊥) (λ s f t. f ((law₂ s).0 t)) sets h)))),
  )

-- choices judged

pub final_law : (n : ℕ) (test : ℕ → Bool) (P : ℕ → Type 0) → ((s : ℕ) → T (test s) ↔ P s) → (k : Choice) → T (is_final_and n test k) ↔ FinalAnd n P k
final_law n test P law k = (
  λ t. (eqb→eq k.decided n (T-and-l (is_final n k) (test k.taken) t), (law k.taken).0 (T-and-r (is_final n k) (test k.taken) t)),
  λ h. T_and (is_final n k) (test k.taken) (eq_to_eqb k.decided n h.0) ((law k.taken).1 h.1),
)

abbrev pub ChoicesJudged : ℕ → List (Rule ℕ) → ℕ → (ℕ → Type 0) → List Choice → Type 0 → Verdict → Type 0
ChoicesJudged n rs m P l Good v = Judged (λ k. k.taken) (choice 0 0) rs m (FinalAnd n P) l Good v

pub first_final : (n : ℕ) (P : ℕ → Type 0) (l : List Choice) (s k : ℕ) → ((x : Choice) × (x.taken ≡ s) × First (choice 0 0) (FinalAnd n P) l x k) ↔ First (choice 0 0) (FinalAnd n P) l (choice n s) k
first_final n P l s k = (
  λ h.
      let p = h.2.here.0 in
      let q = h.1 in
      let e : h.0 ≡ choice n s = λ i. choice (p i) (q i) in
      subst (λ (x : Choice). First (choice 0 0) (FinalAnd n P) l x k) e h.2,
  λ h. (choice n s, refl, h),
)

final_entry : (n : ℕ) (P : ℕ → Type 0) (l : List Choice) (s u : ℕ) → FirstEntry (λ k. k.taken) (choice 0 0) (FinalAnd n P) l s u ↔ FirstAt n P l s u
final_entry n P l s u = (λ f. (f.0, f.1, (first_final n P l s f.0).0 f.2), λ f. (f.0, f.1, (first_final n P l s f.0).1 f.2))

module _ (n : ℕ) (P : ℕ → Type 0) {rs : List (Rule ℕ)} {m : ℕ} {l : List Choice} {Good : Type 0} {v : Verdict} (j : ChoicesJudged n rs m P l Good v) where
  -- all of the walk, or up to the first final choice that is better
  abbrev ChoicesUnits : ℕ → Type 0
  ChoicesUnits u = (Good × (u ≡ length l)) ⊎ ((s : ℕ) × Model rs (has m) × FirstAt n P l s u)

  units_law : (u : ℕ) → Units j u ↔ ChoicesUnits u
  units_law u = (there, back)
    where
      there : Units j u → ChoicesUnits u
      there (inl h) = inl h
      there (inr h) = inr (h.0, h.1, (final_entry n P l h.0 u).0 h.2)

      back : ChoicesUnits u → Units j u
      back (inl h) = inl h
      back (inr h) = inr (h.0, h.1, (final_entry n P l h.0 u).1 h.2)

  module _ (b : ℕ) where
    choices_beaten : (s u : ℕ) → capped b v ≡ Beaten s u ↔ (Model rs (has m) × FirstAt n P l s u × (u ≤ b))
    choices_beaten s u = let r = verdict_beaten j b s u in let f = final_entry n P l s u in (
      λ e. let h = r.0 e in (h.0, f.0 h.1, h.2),
      λ h. r.1 (h.0, f.1 h.1, h.2),
    )

    choices_spent : (u : ℕ) → capped b v ≡ Spent u ↔ ((u ≡ b) × ((n : ℕ) × ChoicesUnits n × (b < n)))
    choices_spent u = let r = verdict_spent j b u in (
      λ e. let h = r.0 e in (h.0, (h.1.0, (units_law h.1.0).0 h.1.1, h.1.2)),
      λ h. r.1 (h.0, (h.1.0, (units_law h.1.0).1 h.1.1, h.1.2)),
    )

-- an answer without its units tells the better set
bare_beaten : (v : Verdict) (s : ℕ) → bare v ≡ Beaten s 0 → (u : ℕ) × (v ≡ Beaten s u)
bare_beaten (Yes u) s e = absurd (let z : ◌≡◌ {A = ℕ} 0 1 = cc in omega arith)
bare_beaten (Broken i) s e = absurd (let z : ◌≡◌ {A = ℕ} 0 1 = cc in omega arith)
bare_beaten (Beaten t u) s e = (u, let p : t ≡ s = cc in ap (λ (x : ℕ). Beaten x u) p)
bare_beaten (Spent u) s e = absurd (let z : ◌≡◌ {A = ℕ} 0 1 = cc in omega arith)
bare_beaten (Refused f) s e = absurd (let z : ◌≡◌ {A = ℕ} 0 1 = cc in omega arith)

module _ (ws : List ℕ) (rs : List (Rule ℕ)) (m : ℕ) where
  abbrev Beating : ℕ → Type 0
  Beating s = Beats ws rs s m

  pub preferred_judged : ChoicesJudged (length ws) rs m (λ s. Beats ws rs s m) (preferred_walk ws rs m) (Preferred ws rs m) (preferred_needs ws rs m)
  unfolding preferred_needs
  preferred_judged =
      let law = final_law (length ws) (λ s. is_beating ws rs s m) Beating (λ s. beats_law ws rs s m) in
      let none = none_alike (λ k. k.taken) (is_final_and (length ws) (λ s. is_beating ws rs s m)) (FinalAnd (length ws) Beating) law (preferred_walk ws rs m) (λ s. is_beating ws rs s m) Beating (λ s. beats_law ws rs s m) (agreeing ws m (walk_order (length ws))) (preferred_finals ws rs m) in
      let full = unbeaten ws rs m (walk_order (length ws)) (all_walk_order (length ws)) in
      judged (λ k. k.taken) (choice 0 0) rs m (is_final_and (length ws) (λ s. is_beating ws rs s m)) (FinalAnd (length ws) Beating) law (preferred_walk ws rs m) (Preferred ws rs m)
      (λ h. full.0 (h.0, none.0 h.1), λ p. let h = full.1 p in (h.0, none.1 h.1))

  pub preferred_answered : Answered (preferred_needs ws rs m)
  preferred_answered = preferred_judged.answered

  pub yes_law : ((u : ℕ) × (preferred_needs ws rs m ≡ Yes u)) ↔ Preferred ws rs m
  yes_law = says_yes preferred_judged

  earliest : (s u : ℕ) → preferred_needs ws rs m ≡ Beaten s u → (t : ℕ) → t < 2 ^ length ws → Earlier (length ws) t s → Beats ws rs t m → ⊥
  earliest s u e = let f = bare_beaten (full_preferred_needs ws rs m) s (sym (preferred_same ws rs m) ∙ ap bare e) in full_earliest ws rs m s f.0 f.1

  pub preferred_means : (budget : ℕ) → PreferredMeans ws rs m budget
  unfolding preferred_verdict
  preferred_means budget = record {
    yes = verdict_yes preferred_judged budget;
    broken = verdict_broken preferred_judged budget;
    beaten = choices_beaten (length ws) Beating preferred_judged budget;
    earliest = λ s u e. earliest s u ((capped_same budget (preferred_needs ws rs m) preferred_answered (Beaten s u) tt).0 e).0;
    spent = choices_spent (length ws) Beating preferred_judged budget;
    never_refused = verdict_unrefused preferred_judged budget;
  }

module _ (n : ℕ) (rs : List (Rule ℕ)) (m : ℕ) (inside : m < 2 ^ n) where
  abbrev Smaller : ℕ → Type 0
  Smaller s = Model (reduct rs (has m)) (has s)

  pub stable_judged : ChoicesJudged n rs m (λ s. Model (reduct rs (has m)) (has s)) (stable_walk n rs m) (Stable rs m) (stable_needs n rs m)
  unfolding stable_needs
  stable_judged =
      let smaller : ℕ → Bool = λ s. is_model (reduct rs (has m)) (has s) in
      let law = final_law n smaller Smaller (λ s. model_law (reduct rs (has m)) (has s)) in
      let none = none_alike (λ k. k.taken) (is_final_and n smaller) (FinalAnd n Smaller) law (stable_walk n rs m) smaller Smaller (λ s. model_law (reduct rs (has m)) (has s)) (proper_subsets m (walk_order n)) (stable_finals n rs m) in
      let full = minimal n rs m inside (walk_order n) (all_walk_order n) in
      judged (λ k. k.taken) (choice 0 0) rs m (is_final_and n smaller) (FinalAnd n Smaller) law (stable_walk n rs m) (Stable rs m)
      (λ h. full.0 (h.0, none.0 h.1), λ p. let h = full.1 p in (h.0, none.1 h.1))

  earliest_smaller : (s u : ℕ) → stable_needs n rs m ≡ Beaten s u → (t : ℕ) → ProperSubset t m → Earlier n t s → Smaller t → ⊥
  earliest_smaller s u e = let f = bare_beaten (full_stable_needs n rs m) s (sym (stable_same n rs m) ∙ ap bare e) in full_earliest_smaller n rs m inside s f.0 f.1

  pub stable_means : (budget : ℕ) → StableMeans n rs m budget
  unfolding stable_verdict
  stable_means budget = record {
    yes = verdict_yes stable_judged budget;
    broken = verdict_broken stable_judged budget;
    beaten = choices_beaten n Smaller stable_judged budget;
    earliest = λ s u e. earliest_smaller s u ((capped_same budget (stable_needs n rs m) stable_judged.answered (Beaten s u) tt).0 e).0;
    spent = choices_spent n Smaller stable_judged budget;
    never_refused = verdict_unrefused stable_judged budget;
  }

-- what a choice costs
module _ (ws : List ℕ) (rs : List (Rule ℕ)) where
  abbrev pub choice_cost : Choice → ℕ
  choice_cost k = cond (is_final (length ws) k) (suc (units_of (preferred_needs ws rs k.taken))) 1

  pub cost_law : (k : Choice) (c : ℕ) → ChoiceUnits ws rs k c ↔ (c ≡ choice_cost k)
  cost_law k c = step (is_final (length ws) k) refl
    where
      s : ℕ
      s = k.taken

      step : (b : Bool) → is_final (length ws) k ≡ b → ChoiceUnits ws rs k c ↔ (c ≡ cond b (suc (units_of (preferred_needs ws rs s))) 1)
      step false q = (there, λ e. inl ((λ h. T_of q (eq_to_eqb k.decided (length ws) h.0)), e))
        where
          there : ChoiceUnits ws rs k c → c ≡ 1
          there (inl h) = h.1
          there (inr h) = absurd (T_of q (eq_to_eqb k.decided (length ws) h.1))
      step true q = (there, λ e. back e (decide (is_model rs (has s))))
        where
          full : k.decided ≡ length ws
          full = eqb→eq k.decided (length ws) (T_of (sym q) tt)

          there : ChoiceUnits ws rs k c → c ≡ suc (units_of (preferred_needs ws rs s))
          there (inl h) = let e = h.1 in omega (arith, units_broken (preferred_judged ws rs s) (λ p. h.0 (full, p)))
          there (inr h) = let e = h.3 in omega (arith, units_counted (preferred_judged ws rs s) h.0 ((units_law (length ws) (λ t. Beats ws rs t s) (preferred_judged ws rs s) h.0).1 h.2))

          back : c ≡ suc (units_of (preferred_needs ws rs s)) → T (is_model rs (has s)) ⊎ (T (is_model rs (has s)) → ⊥) → ChoiceUnits ws rs k c
          back e (inl t) = inr (units_of (preferred_needs ws rs s), full, (units_law (length ws) (λ t. Beats ws rs t s) (preferred_judged ws rs s) (units_of (preferred_needs ws rs s))).0 (units_model (preferred_judged ws rs s) ((model_law rs (has s)).0 t)), e)
          back e (inr t) =
              let none : Model rs (has s) → ⊥ = λ p. t ((model_law rs (has s)).1 p) in
              inl ((λ h. none h.1), omega (arith, units_broken (preferred_judged ws rs s) none))
