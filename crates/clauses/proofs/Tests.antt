-- Tests of Booleans and lists, as equations.
use Prim.Native.Nat.{ℕ}
use native.Mathlib.Omega.{arith}
use mathlib.Core.Path.{◌≡◌, refl}
use mathlib.Core.List.{List, [], ◌∷◌}
use mathlib.Core.Bool.{Bool, true, false, not, ◌&&◌, ◌||◌}
use Rattle.rules.specs.Lists.{every, some}

pub neither : (a b : Bool) → (a || b) ≡ false → (a ≡ false) × (b ≡ false)
neither true b e = let z : ◌≡◌ {A = ℕ} 0 1 = cc in absurd (omega arith)
neither false b e = (refl, e)

pub not_all : {A : Type 0} (m : A → Bool) (xs : List A) → not (every m xs && true) ≡ some (λ a. not (m a)) xs
not_all m [] = refl
not_all m (x ∷ xs) = go (m x) (not_all m xs)
  where
    go : (b : Bool) → not (every m xs && true) ≡ some (λ a. not (m a)) xs → not ((b && every m xs) && true) ≡ (not b || some (λ a. not (m a)) xs)
    go true e = e
    go false e = refl
