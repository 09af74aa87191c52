-- Tests put together, and what they say together.
use mathlib.Core.Logic.{◌⊎◌, inl, inr, ◌↔◌}
use mathlib.Core.Bool.{Bool, true, false, cond, not, ◌&&◌, ◌||◌}
use lib.Dec.{T}
use Rattle.rules.proofs.Booleans.{T-not-in, T-not-out, T_and, T-and-l, T-and-r, T-or, T-or-out}

-- a test that fails says that its sentence does not hold
pub not_law : {P : Type 0} (b : Bool) → T b ↔ P → T (not b) ↔ (P → ⊥)
not_law b law = (λ t p. T-not-out b t (law.1 p), λ h. T-not-in b (λ t. h (law.0 t)))

-- two tests
pub or_law : {P Q : Type 0} (a b : Bool) → T a ↔ P → T b ↔ Q → T (a || b) ↔ (P ⊎ Q)
or_law {P} {Q} a b f g = (λ t. there (T-or-out a b t), λ h. T-or a b (back h))
  where
    there : T a ⊎ T b → P ⊎ Q
    there (inl t) = inl (f.0 t)
    there (inr t) = inr (g.0 t)

    back : P ⊎ Q → T a ⊎ T b
    back (inl h) = inl (f.1 h)
    back (inr h) = inr (g.1 h)

-- two tests that both hold
pub and_law : {P Q : Type 0} (a b : Bool) → T a ↔ P → T b ↔ Q → T (a && b) ↔ (P × Q)
and_law a b f g = (λ t. (f.0 (T-and-l a b t), g.0 (T-and-r a b t)), λ h. T_and a b (f.1 h.0) (g.1 h.1))

pub not_and : {P Q : Type 0} (a b : Bool) → T (not a) ↔ P → T (not b) ↔ Q → T (not (a && b)) ↔ (P ⊎ Q)
not_and {P} {Q} true b f g = (λ t. inr (g.0 t), λ h. right h)
  where
    right : P ⊎ Q → T (not b)
    right (inl h) = absurd (f.1 h)
    right (inr h) = g.1 h
not_and {P} {Q} false b f g = (λ t. inl (f.0 tt), λ h. tt)

-- a case for each outcome of a test
pub on_cond : {A : Type 0} (P : A → Type 0) (b : Bool) (x y : A) → (T b → P x) → ((T b → ⊥) → P y) → P (cond b x y)
on_cond P true x y h k = h tt
on_cond P false x y h k = k (λ t. t)
