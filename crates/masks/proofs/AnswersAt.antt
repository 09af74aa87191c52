-- Answers over places are answers over sets: budgets go through, and an answer without a set stays.
use Prim.Native.Nat.{ℕ}
use mathlib.Core.Path.{◌≡◌, refl, sym, ap, ◌∙◌}
use mathlib.Core.Logic.{⊎_elim}
use mathlib.Core.Bool.{Bool, true, false, cond}
use mathlib.Core.List.{[], ◌∷◌}
use native.Mathlib.Omega.{arith}
use lib.Dec.{leb}
use types.Run.{OneOf}
use denote.Enum.Declared.{tag_of}
use Rattle.places.specs.Places.{place}
use Rattle.walks.specs.Walk.{capped, capped_next}
use Rattle.walks.specs.declared.answers.Verdict.{Verdict}
use Rattle.walks.specs.declared.answers.Verdict.TheVariants.{Yes, Broken, Beaten, Spent, Refused}
use Rattle.walks.specs.declared.answers.NextState.{NextState}
use Rattle.walks.specs.declared.answers.NextState.TheVariants.{State, Nothing, Spent as NextSpent, Refused as NextRefused}
use Rattle.walks.specs.contracts.answers.Verdict.{the_type as verdict-type}
use Rattle.walks.specs.contracts.answers.NextState.{the_type as next-type}
use Rattle.masks.specs.AnswersAt.{verdict_at, next_at}

either : {A : Type 0} (f : A → A) (t : Bool) (x y : A) → cond t (f x) (f y) ≡ f (cond t x y)
either f true x y = refl
either f false x y = refl

-- verdicts

pub no_better : (n : ℕ) (v : Verdict) → OneOf (0 ∷ 1 ∷ 3 ∷ 4 ∷ []) (tag_of verdict-type v) → v ≡ verdict_at n v
unfolding verdict_at
no_better n (Yes u) t = refl
no_better n (Broken i) t = refl
no_better n (Beaten p u) t = absurd (⊎_elim (λ (q : ◌≡◌ {A = ℕ} 2 0). omega arith) (⊎_elim (λ (q : ◌≡◌ {A = ℕ} 2 1). omega arith) (⊎_elim (λ (q : ◌≡◌ {A = ℕ} 2 3). omega arith) (λ (q : ◌≡◌ {A = ℕ} 2 4). omega arith))) t)
no_better n (Spent u) t = refl
no_better n (Refused f) t = refl

pub better_at : (n p r u : ℕ) (v : Verdict) → v ≡ Beaten p u → r ≡ place n p → Beaten r u ≡ verdict_at n v
unfolding verdict_at
better_at n p r u v e q = ap (λ (x : ℕ). Beaten x u) q ∙ ap (verdict_at n) (sym e)

-- under a budget
pub capped_at : (n b : ℕ) (v : Verdict) → capped b (verdict_at n v) ≡ verdict_at n (capped b v)
unfolding capped verdict_at
capped_at n b (Yes u) = either (verdict_at n) (leb u b) (Yes u) (Spent b)
capped_at n b (Broken i) = refl
capped_at n b (Beaten p u) = either (verdict_at n) (leb u b) (Beaten p u) (Spent b)
capped_at n b (Spent u) = refl
capped_at n b (Refused f) = refl

-- next states

pub no_state : (n : ℕ) (v : NextState) → OneOf (1 ∷ 2 ∷ 3 ∷ []) (tag_of next-type v) → v ≡ next_at n v
unfolding next_at
no_state n (State p u) t = absurd (⊎_elim (λ (q : ◌≡◌ {A = ℕ} 0 1). omega arith) (⊎_elim (λ (q : ◌≡◌ {A = ℕ} 0 2). omega arith) (λ (q : ◌≡◌ {A = ℕ} 0 3). omega arith)) t)
no_state n (Nothing u) t = refl
no_state n (NextSpent u) t = refl
no_state n (NextRefused f) t = refl

pub state_at : (n p r u : ℕ) (v : NextState) → v ≡ State p u → r ≡ place n p → State r u ≡ next_at n v
unfolding next_at
state_at n p r u v e q = ap (λ (x : ℕ). State x u) q ∙ ap (next_at n) (sym e)

pub capped_next_at : (n b : ℕ) (v : NextState) → capped_next b (next_at n v) ≡ next_at n (capped_next b v)
unfolding capped_next next_at
capped_next_at n b (State p u) = either (next_at n) (leb u b) (State p u) (NextSpent b)
capped_next_at n b (Nothing u) = either (next_at n) (leb u b) (Nothing u) (NextSpent b)
capped_next_at n b (NextSpent u) = refl
capped_next_at n b (NextRefused f) = refl
