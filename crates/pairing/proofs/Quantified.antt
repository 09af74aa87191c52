-- Equivalences for simp: All and Any over the lists that the translation goes through, and the shapes they compute to.
use Prim.Native.Nat.{ℕ, ◌≤◌, ◌<◌}
use native.Mathlib.Omega.{arith}
use mathlib.Core.List.{List, ◌++◌, map}
use mathlib.Core.Bool.{Bool}
use mathlib.Core.Logic.{◌⊎◌, inl, inr, ◌↔◌, and-true, true_implies}
use lib.Dec.{T, leb, leb→le, le→leb}
use Rattle.rules.specs.Lists.{All, Any, filter, from}
use Rattle.rules.proofs.Lists.{all_from, from_all, all_imp, any_app, app_any, any_map, map_any, any_filter, filter_any, app_iff, keep_iff, filter_iff, map_iff, flat_iff}

module _ {A B : Type 0} where
  pub or_iff : {C D : Type 0} → A ↔ C → B ↔ D → (A ⊎ B) ↔ (C ⊎ D)
  or_iff {C} {D} f g = (there, back)
    where
      there : A ⊎ B → C ⊎ D
      there (inl h) = inl (f.0 h)
      there (inr h) = inr (g.0 h)

      back : C ⊎ D → A ⊎ B
      back (inl h) = inl (f.1 h)
      back (inr h) = inr (g.1 h)

  pub or_last : (A ⊎ (B ⊎ ⊥)) ↔ (A ⊎ B)
  or_last = (there, back)
    where
      there : A ⊎ (B ⊎ ⊥) → A ⊎ B
      there (inl h) = inl h
      there (inr (inl h)) = inr h
      there (inr (inr h)) = absurd h

      back : A ⊎ B → A ⊎ (B ⊎ ⊥)
      back (inl h) = inl h
      back (inr h) = inr (inl h)

  pub curry_iff : {C : Type 0} → (A × B → C) ↔ (A → B → C)
  curry_iff = (λ f a b. f (a, b), λ f h. f h.0 h.1)

pub or_none : {A : Type 0} → (A ⊎ ⊥) ↔ A
or_none {A} = (only, λ h. inl h)
  where
    only : A ⊎ ⊥ → A
    only (inl h) = h
    only (inr h) = absurd h

pub le_iff : (a b : ℕ) → T (leb a b) ↔ (a ≤ b)
le_iff a b = (leb→le a b, le→leb a b)

module _ {A : Type 0} where
  pub all_iff : (P Q : A → Type 0) → ((a : A) → P a ↔ Q a) → (l : List A) → All P l ↔ All Q l
  all_iff P Q f l = (all_imp P Q (λ a. (f a).0) l, all_imp Q P (λ a. (f a).1) l)

  pub any_app_iff : (P : A → Type 0) (xs ys : List A) → Any P (xs ++ ys) ↔ (Any P xs ⊎ Any P ys)
  any_app_iff P xs ys = (app_any P xs ys, any_app P xs ys)

pub any_chosen_iff : {A B : Type 0} (P : B → Type 0) (f : A → B) (t : A → Bool) (l : List A) → Any P (map f (filter t l)) ↔ Any (λ a. T (t a) × P (f a)) l
any_chosen_iff P f t l = (λ h. filter_any (λ a. P (f a)) t l (map_any P f (filter t l) h), λ h. any_map P f (filter t l) (any_filter (λ a. P (f a)) t l h))

module _ (P : ℕ → Type 0) (n : ℕ) where
  pub below_iff : All P (from 0 n) ↔ ((a : ℕ) → a < n → P a)
  below_iff = (λ h a l. from_all P 0 n h a (omega arith) (omega arith), λ f. all_from P 0 n (λ a l u. f a (omega arith)))

  pub classes_iff : All P (from 1 n) ↔ ((i : ℕ) → 1 ≤ i → i ≤ n → P i)
  classes_iff = (λ h i l u. from_all P 1 n h i l (omega arith), λ f. all_from P 1 n (λ i l u. f i l (omega arith)))

-- a list's All as a statement of each atom; an asked rule as a plain implication
pub ruleset Each·simp = (app_iff, keep_iff, flat_iff, map_iff, filter_iff, below_iff, classes_iff, le_iff)

pub ruleset Asked·simp = (curry_iff, and-true, true_implies, or_last, or_none)
