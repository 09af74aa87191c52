-- What a test keeps of a list.
use Prim.Native.Nat.{suc, ◌≤◌}
use mathlib.Core.Path.{◌≡◌, refl, ap, ap₂, ◌∙◌}
use mathlib.Core.Bool.{Bool, true, false, ◌&&◌}
use mathlib.Core.List.{List, [], ◌∷◌, ◌++◌}
use mathlib.Core.Logic.{◌≢◌}
use native.Mathlib.Omega.{arith}
use lib.Dec.{T}
use lib.ListN.{length}
use Rattle.rules.specs.Lists.{All, Distinct, keep, filter}
use Rattle.rules.proofs.Booleans.{is_true_lem, is_false}
use Rattle.rules.proofs.Lists.{all_imp, all_filter}

module _ {A : Type 0} (p : A → Bool) where
  pub filter_none : (l : List A) → All (λ x. T (p x) → ⊥) l → filter p l ≡ []
  filter_none [] h = refl
  filter_none (x ∷ l) h = ap (λ (b : Bool). keep b x (filter p l)) (is_false (p x) h.0) ∙ filter_none l h.1

  pub filter_every : (l : List A) → All (λ x. T (p x)) l → filter p l ≡ l
  filter_every [] h = refl
  filter_every (x ∷ l) h = ap (λ (b : Bool). keep b x (filter p l)) (is_true_lem (p x) h.0) ∙ ap (λ (r : List A). x ∷ r) (filter_every l h.1)

  pub filter_app : (xs ys : List A) → filter p (xs ++ ys) ≡ filter p xs ++ filter p ys
  filter_app [] ys = refl
  filter_app (x ∷ xs) ys = step (p x) (filter_app xs ys)
    where
      step : (b : Bool) → filter p (xs ++ ys) ≡ filter p xs ++ filter p ys → keep b x (filter p (xs ++ ys)) ≡ keep b x (filter p xs) ++ filter p ys
      step true e = ap (λ (l : List A). x ∷ l) e
      step false e = e

  pub filter_and : (q : A → Bool) (l : List A) → filter (λ x. p x && q x) l ≡ filter q (filter p l)
  filter_and q [] = refl
  filter_and q (x ∷ l) = step (p x) (filter_and q l)
    where
      step : (b : Bool) → filter (λ x. p x && q x) l ≡ filter q (filter p l) → keep (b && q x) x (filter (λ x. p x && q x) l) ≡ filter q (keep b x (filter p l))
      step true e = ap (keep (q x) x) e
      step false e = e

  pub distinct_filter : (l : List A) → Distinct l → Distinct (filter p l)
  distinct_filter [] h = tt
  distinct_filter (x ∷ l) h = step (p x) (distinct_filter l h.1)
    where
      step : (b : Bool) → Distinct (filter p l) → Distinct (keep b x (filter p l))
      step true rest = (all_filter (λ y. x ≢ y) p l (all_imp (λ y. x ≢ y) (λ y. T (p y) → x ≢ y) (λ y q u. q) l h.0), rest)
      step false rest = rest

  pub filter_length : (l : List A) → length (filter p l) ≤ length l
  filter_length [] = omega arith
  filter_length (x ∷ l) = step (p x) (filter_length l)
    where
      step : (b : Bool) → length (filter p l) ≤ length l → length (keep b x (filter p l)) ≤ suc (length l)
      step true h = omega arith
      step false h = omega arith

  -- if none is lost, all pass
  pub filter_full : (l : List A) → length (filter p l) ≡ length l → All (λ x. T (p x)) l
  filter_full [] e = tt
  filter_full (x ∷ l) e = step (p x) (filter_full l) (filter_length l) e
    where
      step : (b : Bool) → (length (filter p l) ≡ length l → All (λ x. T (p x)) l) → length (filter p l) ≤ length l → length (keep b x (filter p l)) ≡ suc (length l) → T b × All (λ x. T (p x)) l
      step true f h q = (tt, f (omega arith))
      step false f h q = absurd (omega arith)

pub filter_same : {A : Type 0} (p q : A → Bool) (l : List A) → All (λ x. p x ≡ q x) l → filter p l ≡ filter q l
filter_same p q [] h = refl
filter_same {A} p q (x ∷ l) h = ap₂ (λ (b : Bool) (r : List A). keep b x r) h.0 (filter_same p q l h.1)

pub filter_swap : {A : Type 0} (p q : A → Bool) (l : List A) → filter p (filter q l) ≡ filter q (filter p l)
filter_swap p q [] = refl
filter_swap {A} p q (x ∷ l) = step (p x) (q x) refl refl (filter_swap p q l)
  where
    step : (a b : Bool) → p x ≡ a → q x ≡ b → filter p (filter q l) ≡ filter q (filter p l) → filter p (keep b x (filter q l)) ≡ filter q (keep a x (filter p l))
    step true true e d h = rw (e, d, h)
    step true false e d h = rw (d, h)
    step false true e d h = rw (e, h)
    step false false e d h = h
