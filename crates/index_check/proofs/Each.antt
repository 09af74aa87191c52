-- A test of every entry of a list, one after the other.
use Prim.Native.Nat.{ℕ, zero, suc, ◌+◌, ◌≤◌, ◌<◌}
use native.Mathlib.Numerals.{add-one}
use native.Mathlib.Omega.{arith}
use mathlib.Core.Path.{◌≡◌, refl, sym, ap, ap₂, ◌∙◌}
use mathlib.Core.Bool.{Bool, true, false, ◌&&◌}
use mathlib.Core.List.{List, [], ◌∷◌}
use lib.ListN.{length, get_or, drop, drop_of_length-le}
use lib.Seq.{drop-cons}
use Rattle.rules.specs.Lists.{All, every, from}
use Rattle.rules.proofs.Lists.{length_from}

pub every_same : (p q : ℕ → Bool) (l : List ℕ) → All (λ a. p a ≡ q a) l → every p l ≡ every q l
every_same p q [] h = refl
every_same p q (x ∷ l) h = ap₂ (λ (a b : Bool). a && b) h.0 (every_same p q l h.1)

-- what is left after i entries decides
pub record EachLeft (t : ℕ → Bool) (l : List ℕ) (i : ℕ) : Type 0 where
  pub left : every t (drop i l) ≡ every t l

pub each_begin : (t : ℕ → Bool) (l : List ℕ) → EachLeft t l 0
each_begin t l = record { left = refl }

module _ {t : ℕ → Bool} {l : List ℕ} {i : ℕ} (h : EachLeft t l i) where
  pub each_end : length l ≤ i → true ≡ every t l
  each_end e = sym (ap (every t) (drop_of_length-le l e)) ∙ h.left

  module _ (u : i < length l) where
    next : t (get_or l i 0) && every t (drop (i + 1) l) ≡ every t l
    next = ap (λ (k : ℕ). t (get_or l i 0) && every t (drop k l)) (add-one i) ∙ sym (ap (every t) (drop-cons l i 0 u)) ∙ h.left

    pub each_fails : t (get_or l i 0) ≡ false → false ≡ every t l
    each_fails f = ap (λ (b : Bool). b && every t (drop (i + 1) l)) (sym f) ∙ next

    pub each_again : t (get_or l i 0) ≡ true → EachLeft t l (i + 1)
    each_again f = record { left = ap (λ (b : Bool). b && every t (drop (i + 1) l)) (sym f) ∙ next }

-- following numbers

pub from_at : (s c i : ℕ) → i < c → get_or (from s c) i 0 ≡ s + i
from_at s zero i l = absurd (omega arith)
from_at s (suc c) zero l = omega arith
from_at s (suc c) (suc i) l = omega (arith, from_at (suc s) c i (omega arith))

module _ {t : ℕ → Bool} {n i : ℕ} (h : EachLeft t (from 0 n) i) where
  pub numbers_end : n ≤ i → true ≡ every t (from 0 n)
  numbers_end l = each_end h (omega (arith, length_from 0 n))

  module _ (l : i < n) where
    here : get_or (from 0 n) i 0 ≡ i
    here = omega (arith, from_at 0 n i l)

    pub numbers_fails : t i ≡ false → false ≡ every t (from 0 n)
    numbers_fails f = each_fails h (omega (arith, length_from 0 n)) (ap t here ∙ f)

    pub numbers_again : t i ≡ true → EachLeft t (from 0 n) (i + 1)
    numbers_again f = each_again h (omega (arith, length_from 0 n)) (ap t here ∙ f)
