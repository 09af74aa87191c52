-- The numbers of atoms, the made ones in their place.
use Prim.Native.Nat.{ℕ, suc, ◌+◌, ◌-◌, ◌≤◌, ◌<◌}
use native.Mathlib.Decide.{ℕ_discrete}
use native.Mathlib.Omega.{arith}
use mathlib.Core.Path.{◌≡◌, refl, sym, ap, ◌∙◌}
use mathlib.Core.Bool.{Bool, true, false, cond}
use mathlib.Core.List.{List, [], ◌∷◌}
use lib.Dec.{ltb}
use lib.ListN.{length, get_or, set, length-set}
use lib.Seq.{get_or-set_same, get_or-set_other}
use borrow.Author.Tests.{lt-ltb, le-ltb}
use Rattle.std.specs.List.{filter as kept}
use Rattle.rules.specs.Lists.{keep, filter}
use Rattle.conditions.specs.Numbers.{placing}

-- class words that are not fixed

pub count_kept : (t : ℕ → Bool) (ws : List ℕ) → length (kept t ws) ≡ length (filter t ws)
count_kept t [] = refl
count_kept t (w ∷ ws) = one (t w) (count_kept t ws)
  where
    one : (b : Bool) → length (kept t ws) ≡ length (filter t ws) → length (cond b (w ∷ kept t ws) (kept t ws)) ≡ length (keep b w (filter t ws))
    one true e = ap suc e
    one false e = e

-- an atom's number

module _ (q n k a : ℕ) where
  pub before_made : a < q → a ≡ placing q n k a
  unfolding placing
  before_made l = sym (ap (λ b. cond b a (cond (ltb a n) (a + k) (q + (a - n)))) (lt-ltb a q l))

  module _ (l : q ≤ a) where
    declared_later : placing q n k a ≡ cond (ltb a n) (a + k) (q + (a - n))
    unfolding placing
    declared_later = ap (λ b. cond b a (cond (ltb a n) (a + k) (q + (a - n)))) (le-ltb a q l)

    pub behind_made : a < n → a + k ≡ placing q n k a
    behind_made u = sym (declared_later ∙ ap (λ b. cond b (a + k) (q + (a - n))) (lt-ltb a n u))

    pub among_made : n ≤ a → q + (a - n) ≡ placing q n k a
    among_made u = sym (declared_later ∙ ap (λ b. cond b (a + k) (q + (a - n))) (le-ltb a n u))

-- the table of all numbers

pub record Numbering (f : ℕ → ℕ) (before numbers : List ℕ) (i : ℕ) : Type 0 where
  pub long : length numbers ≡ length before
  pub filled : (a : ℕ) → a < i → get_or numbers a 0 ≡ f a

pub numbers_begin : (f : ℕ → ℕ) (before : List ℕ) → Numbering f before before 0
numbers_begin f before = record { long = refl; filled = λ a l. absurd (omega arith) }

pub numbers_again : {f : ℕ → ℕ} {before numbers : List ℕ} {i : ℕ} → Numbering f before numbers i → i < length before → {x : ℕ} → x ≡ f i → Numbering f before (set numbers i x) (i + 1)
numbers_again {f} {before} {numbers} {i} h l {x} e = record { long = length-set numbers i x ∙ h.long; filled = λ a u. go a u (ℕ_discrete a i) }
  where
    go : (a : ℕ) → a < i + 1 → Dec (a ≡ i) → get_or (set numbers i x) a 0 ≡ f a
    go a u (yes p) = ap (λ k. get_or (set numbers i x) k 0) p ∙ get_or-set_same numbers i x 0 (omega (arith, h.long)) ∙ e ∙ ap f (sym p)
    go a u (no p) = get_or-set_other numbers i a x 0 p ∙ h.filled a (omega arith)
