-- Where each list is read up to, compared with where it ends: pair by pair as by atom.
use Prim.Native.Nat.{ℕ, suc, ◌+◌, ◌≤◌, ◌<◌}
use native.Mathlib.Omega.{arith}
use mathlib.Core.Path.{◌≡◌, refl, sym, ap, ap₂, ◌∙◌}
use mathlib.Core.Bool.{Bool, ◌&&◌}
use mathlib.Core.List.{List, [], ◌∷◌}
use lib.Dec.{eqb}
use lib.ListN.{length, get_or}
use Rattle.std.specs.List.{list_all, zip}
use Rattle.rules.specs.Lists.{every, from}
use Rattle.index_check.specs.Lists.{is_all_read}

pairs_same : (s : ℕ) (f : ℕ → Bool) (xs ys : List ℕ) → ((a : ℕ) → a < length xs → f (s + a) ≡ eqb (get_or xs a 0) (get_or ys a 0)) → length xs ≤ length ys
    → list_all (λ (p : ℕ × ℕ). eqb p.0 p.1) (zip xs ys) ≡ every f (from s (length xs))
pairs_same s f [] ys h l = refl
pairs_same s f (x ∷ xs) [] h l = absurd (omega arith)
pairs_same s f (x ∷ xs) (y ∷ ys) h l =
    let z : s + 0 ≡ s = omega arith in
    let here : eqb x y ≡ f s = sym (h 0 (omega arith)) ∙ ap f z in
    ap₂ (λ (a b : Bool). a && b) here (pairs_same (suc s) f xs ys (λ a m. let e : suc s + a ≡ s + suc a = omega arith in ap f e ∙ h (suc a) (omega arith)) (omega arith))

pub all_pairs : (next ends : List ℕ) → length next ≤ length ends → list_all (λ (p : ℕ × ℕ). eqb p.0 p.1) (zip next ends) ≡ is_all_read next ends
unfolding is_all_read
all_pairs next ends l =
    let f : ℕ → Bool = λ a. eqb (get_or next a 0) (get_or ends a 0) in
    pairs_same 0 f next ends (λ a m. let z : 0 + a ≡ a = omega arith in ap f z) l
