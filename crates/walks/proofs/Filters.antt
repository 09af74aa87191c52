-- What a test keeps of the numbers from one on: those that fail are passed over.
use Prim.Native.Nat.{ℕ, zero, suc, ◌+◌, ◌-◌, ◌≤◌, ◌<◌}
use mathlib.Core.Path.{◌≡◌, refl, ap, ◌∙◌}
use mathlib.Core.Bool.{Bool, true, false}
use mathlib.Core.List.{List, [], ◌∷◌}
use native.Mathlib.Omega.{arith}
use lib.Dec.{T}
use Rattle.rules.specs.Lists.{filter, keep, from}

kept : {A : Type 0} (b : Bool) (x : A) (l : List A) → T b → keep b x l ≡ x ∷ l
kept true x l t = refl
kept false x l t = absurd t

dropped : {A : Type 0} (b : Bool) (x : A) (l : List A) → (T b → ⊥) → keep b x l ≡ l
dropped true x l f = absurd (f tt)
dropped false x l f = refl

module _ (p : ℕ → Bool) where
  -- what p keeps of the numbers from s on, below top
  abbrev pub up_to : ℕ → ℕ → List ℕ
  up_to top s = filter p (from s (top - s))

  skip : (k c s : ℕ) → ((x : ℕ) → s ≤ x → x < s + k → T (p x) → ⊥) → filter p (from s (k + c)) ≡ filter p (from (s + k) c)
  skip zero c s none =
      let e : 0 + c ≡ c = omega arith in
      let f : s ≡ s + 0 = omega arith in
      ap (λ (n : ℕ). filter p (from s n)) e ∙ ap (λ (n : ℕ). filter p (from n c)) f
  skip (suc k) c s none =
      let e : suc k + c ≡ suc (k + c) = omega arith in
      let f : suc s + k ≡ s + suc k = omega arith in
      ap (λ (n : ℕ). filter p (from s n)) e
      ∙ dropped (p s) s (filter p (from (suc s) (k + c))) (none s (omega arith) (omega arith))
      ∙ skip k c (suc s) (λ x l g. none x (omega arith) (omega arith))
      ∙ ap (λ (n : ℕ). filter p (from n c)) f

  pub passed_over : (top s t : ℕ) → s ≤ t → t ≤ top → ((x : ℕ) → s ≤ x → x < t → T (p x) → ⊥) → up_to top s ≡ up_to top t
  passed_over top s t l h none =
      let e : top - s ≡ (t - s) + (top - t) = omega arith in
      let f : s + (t - s) ≡ t = omega arith in
      ap (λ (n : ℕ). filter p (from s n)) e ∙ skip (t - s) (top - t) s (λ x a b. none x a (omega arith)) ∙ ap (λ (n : ℕ). filter p (from n (top - t))) f

  pub none_left : (top s : ℕ) → ((x : ℕ) → s ≤ x → x < top → T (p x) → ⊥) → up_to top s ≡ []
  none_left top s none =
      let e : top - s ≡ (top - s) + 0 = omega arith in
      ap (λ (n : ℕ). filter p (from s n)) e ∙ skip (top - s) 0 s (λ x a b. none x a (omega arith))

  pub taken : (top s : ℕ) → s < top → T (p s) → up_to top s ≡ s ∷ up_to top (suc s)
  taken top s l t =
      let e : top - s ≡ suc (top - suc s) = omega arith in
      ap (λ (n : ℕ). filter p (from s n)) e ∙ kept (p s) s (up_to top (suc s)) t
