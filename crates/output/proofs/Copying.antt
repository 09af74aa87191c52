-- A copy item by item; the first, the middle and the last of at most three are all of them.
use Prim.Native.Nat.{ℕ, suc, ◌+◌, ◌-◌, ◌/◌, ◌≤◌, ◌<◌}
use native.Mathlib.Numerals.{add-one}
use native.Mathlib.Omega.{arith}
use mathlib.Core.Path.{◌≡◌, refl, sym, ap, ◌∙◌}
use mathlib.Core.List.{List, [], ◌∷◌, ◌++◌}
use lib.ListN.{length, get_or, set, take, drop, length-set}
use lib.Seq.{drop-cons, take-suc, set_at, append_snoc, length-take-le}

-- the first i items of s over those of d, and one more
pub copied_next : {A : Type 0} (s d : List A) (i : ℕ) (x : A) → i < length s → i < length d → x ≡ get_or s i x → set (take i s ++ drop i d) i x ≡ take (i + 1) s ++ drop (i + 1) d
copied_next s d i x l k e =
    ap (λ r. set (take i s ++ r) i x) (drop-cons d i x k)
    ∙ set_at (take i s) (get_or d i x) (drop (suc i) d) x i (length-take-le i s (omega arith))
    ∙ sym (append_snoc (take i s) x (drop (suc i) d))
    ∙ ap (λ r. r ++ drop (suc i) d) (ap (λ y. take i s ++ (y ∷ [])) e ∙ sym (take-suc s i x l))
    ∙ ap (λ (n : ℕ). take n s ++ drop n d) (sym (add-one i))

pub none_stored : (s d : List ℕ) → length d ≡ length s → length s ≡ 0 → d ≡ s
none_stored [] [] e z = refl
none_stored [] (x ∷ d) e z = absurd (omega arith)
none_stored (a ∷ s) d e z = absurd (omega arith)

module _ (s d : List ℕ) (e : length d ≡ length s) (some : length s ≡ 0 → ⊥) where
  pub middle_below : (x : ℕ) → length s / 2 < length (set d 0 x)
  middle_below x = omega (arith, length-set d 0 x)

  pub last_below : (x y : ℕ) → length s - 1 < length (set (set d 0 x) (length s / 2) y)
  last_below x y = omega (arith, length-set (set d 0 x) (length s / 2) y, length-set d 0 x)

pub few_stored : (s d : List ℕ) → length d ≡ length s → (length s ≡ 0 → ⊥) → length s ≤ 3
    → set (set (set d 0 (get_or s 0 0)) (length s / 2) (get_or s (length s / 2) 0)) (length s - 1) (get_or s (length s - 1) 0) ≡ s
few_stored [] d e some m = absurd (some refl)
few_stored (a ∷ s) [] e some m = absurd (omega arith)
few_stored (a ∷ []) (x ∷ []) e some m = refl
few_stored (a ∷ []) (x ∷ y ∷ d) e some m = absurd (omega arith)
few_stored (a ∷ b ∷ s) (x ∷ []) e some m = absurd (omega arith)
few_stored (a ∷ b ∷ []) (x ∷ y ∷ []) e some m = refl
few_stored (a ∷ b ∷ []) (x ∷ y ∷ z ∷ d) e some m = absurd (omega arith)
few_stored (a ∷ b ∷ c ∷ s) (x ∷ y ∷ []) e some m = absurd (omega arith)
few_stored (a ∷ b ∷ c ∷ []) (x ∷ y ∷ z ∷ []) e some m = refl
few_stored (a ∷ b ∷ c ∷ []) (x ∷ y ∷ z ∷ w ∷ d) e some m = absurd (omega arith)
few_stored (a ∷ b ∷ c ∷ f ∷ s) (x ∷ y ∷ z ∷ d) e some m = absurd (omega arith)
