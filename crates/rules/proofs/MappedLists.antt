-- What tests, sums and the entries kept say of a mapped list, and sums of lists put together.
use Prim.Native.Nat.{ℕ, zero, suc}
use mathlib.Core.Path.{◌≡◌, refl, sym, ap, ap₂, ◌∙◌}
use mathlib.Core.Bool.{Bool, true, false, ◌&&◌, ◌||◌}
use mathlib.Core.List.{List, [], ◌∷◌, map}
use native.Mathlib.Omega.{arith}
use lib.ListN.{length, length-append}
use Rattle.rules.specs.Lists.{All, every, some, keep, filter, sum, flat, from}
use Rattle.rules.proofs.Lists.{sum_app}

module _ {A B : Type 0} (f : A → B) where
  pub map_keep : (b : Bool) (x : A) (l : List A) → map f (keep b x l) ≡ keep b (f x) (map f l)
  map_keep true x l = refl
  map_keep false x l = refl

  pub filter_map : (p : B → Bool) (l : List A) → filter p (map f l) ≡ map f (filter (λ a. p (f a)) l)
  filter_map p [] = refl
  filter_map p (x ∷ l) = ap (keep (p (f x)) (f x)) (filter_map p l) ∙ sym (map_keep (p (f x)) x (filter (λ a. p (f a)) l))

  pub every_map : (p : B → Bool) (q : A → Bool) (l : List A) → All (λ a. p (f a) ≡ q a) l → every p (map f l) ≡ every q l
  every_map p q [] h = refl
  every_map p q (x ∷ l) h = ap₂ (λ (a b : Bool). a && b) h.0 (every_map p q l h.1)

  pub some_map : (p : B → Bool) (q : A → Bool) (l : List A) → All (λ a. p (f a) ≡ q a) l → some p (map f l) ≡ some q l
  some_map p q [] h = refl
  some_map p q (x ∷ l) h = ap₂ (λ (a b : Bool). a || b) h.0 (some_map p q l h.1)

pub sum_map : {A B : Type 0} (f : B → ℕ) (g : A → B) (l : List A) → sum f (map g l) ≡ sum (λ a. f (g a)) l
sum_map f g [] = refl
sum_map f g (x ∷ l) = omega (arith, sum_map f g l)

module _ {A B : Type 0} where
  pub sum_flat : (f : B → ℕ) (g : A → List B) (l : List A) → sum f (flat g l) ≡ sum (λ a. sum f (g a)) l
  sum_flat f g [] = refl
  sum_flat f g (x ∷ l) = omega (arith, sum_app f (g x) (flat g l), sum_flat f g l)

  pub length_flat : (g : A → List B) (l : List A) → length (flat g l) ≡ sum (λ a. length (g a)) l
  length_flat g [] = refl
  length_flat g (x ∷ l) = omega (arith, length-append (g x) (flat g l), length_flat g l)

-- following numbers, one further
pub from_suc : (s c : ℕ) → from (suc s) c ≡ map suc (from s c)
from_suc s zero = refl
from_suc s (suc c) = ap (λ (l : List ℕ). suc s ∷ l) (from_suc (suc s) c)
