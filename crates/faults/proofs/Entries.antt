-- Entries of equal lists.
use Prim.Native.Nat.{suc}
use native.Mathlib.Omega.{arith}
use mathlib.Core.Path.{◌≡◌, ap}
use mathlib.Core.List.{List, [], ◌∷◌, ◌++◌}
use lib.ListN.{length, get_or, drop}

module _ {A : Type 0} where
  pub cons_same : {x y : A} {xs ys : List A} → x ∷ xs ≡ y ∷ ys → (x ≡ y) × (xs ≡ ys)
  cons_same {x} e = (ap (λ l. get_or l 0 x) e, ap (drop 1) e)

  pub no_cons : {x : A} {xs : List A} → x ∷ xs ≡ [] → ⊥
  no_cons {x} {xs} e = absurd (let z : suc (length xs) ≡ 0 = ap length e in omega arith)

  pub no_append : (xs : List A) (x : A) (ys : List A) → xs ++ (x ∷ ys) ≡ [] → ⊥
  no_append [] x ys e = no_cons e
  no_append (y ∷ xs) x ys e = no_cons e
