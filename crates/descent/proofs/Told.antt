-- What the descent tells under a budget, for each way through its code: units never fall, so a search past its budget stays there.
use Prim.Native.Nat.{ℕ, zero, suc, ◌+◌, ◌^◌, ◌≤◌, ◌<◌}
use mathlib.Core.Path.{◌≡◌, refl, sym, ap, subst}
use mathlib.Core.Bool.{Bool, true, false, cond}
use native.Mathlib.Omega.{arith}
use native.Mathlib.Numerals.{add-one}
use native.Mathlib.Decide.{dec_le}
use Rattle.descent.specs.Descent.{Outcome, Found, Nothing, units_of, Asked, go_on, visit, descend, found_mark, Told, found, nothing, spent}

pub told_nothing : (b u f : ℕ) → u < found_mark → Told b (Nothing u) f u f
told_nothing b u f h = step (dec_le u b)
  where
    step : Dec (u ≤ b) → Told b (Nothing u) f u f
    step (yes l) = nothing u refl l refl refl
    step (no l) = spent (omega arith) (omega arith) (λ m. absurd (omega arith))

pub told_found : (b s u f : ℕ) → b < found_mark → Told b (Found s u) f (found_mark + u) s
told_found b s u f h = step (dec_le u b)
  where
    step : Dec (u ≤ b) → Told b (Found s u) f (found_mark + u) s
    step (yes l) = found s u refl l refl refl
    step (no l) = spent (omega arith) (omega arith) (λ m. omega arith)

-- what is asked of a final choice never takes units back
abbrev pub Rising : Asked → Type 0
Rising t = (s u : ℕ) → u ≤ units_of (t.ends s u)

module _ (t : Asked) (rising : Rising t) where
  visit_rises : (k : ℕ) (v : Bool) (below : ℕ → ℕ → Outcome) → ((s u : ℕ) → u ≤ units_of (below s u)) → (s u : ℕ) → u ≤ units_of (visit t k v below s u)
  unfolding visit
  visit_rises k v below h s u = step (t.visits k v s) (t.closes k v s) (h s (suc u))
    where
      step : (p q : Bool) → suc u ≤ units_of (below s (suc u)) → u ≤ units_of (cond p (cond q (Nothing (suc u)) (below s (suc u))) (Nothing u))
      step true true r = omega arith
      step true false r = omega arith
      step false q r = omega arith

  goes_on : (o : Outcome) (f : ℕ → Outcome) (u : ℕ) → u ≤ units_of o → ((v : ℕ) → v ≤ units_of (f v)) → u ≤ units_of (go_on o f)
  goes_on (Found s v) f u h r = h
  goes_on (Nothing v) f u h r = omega (arith, r v)

  pub descend_rises : (k s u : ℕ) → u ≤ units_of (descend t k s u)
  unfolding descend
  descend_rises zero s u = rising s u
  descend_rises (suc k) s u =
      goes_on (visit t k false (λ s u. descend t k s u) s u) (λ v. visit t k true (λ s u. descend t k s u) (s + 2 ^ k) v) u
      (visit_rises k false (λ s u. descend t k s u) (descend_rises k) s u)
      (visit_rises k true (λ s u. descend t k s u) (descend_rises k) (s + 2 ^ k))

  -- with no atom left
  pub final_told : (k s u b f : ℕ) {r g : ℕ} → k ≡ 0 → Told b (t.ends s u) f r g → Told b (descend t k s u) f r g
  unfolding descend
  final_told k s u b f {r} {g} e h = subst (λ (j : ℕ). Told b (descend t j s u) f r g) (sym e) h

  module _ (k : ℕ) where
    abbrev below : ℕ → ℕ → Outcome
    below s u = descend t k s u

    module _ (v : Bool) (s u b f : ℕ) where
      abbrev visited : Outcome
      visited = visit t k v (λ s u. descend t k s u) s u

      abbrev shape : Bool → Bool → Outcome
      shape p q = cond p (cond q (Nothing (suc u)) (below s (suc u))) (Nothing u)

      pub visit_passed : t.visits k v s ≡ false → u < found_mark → Told b visited f u f
      unfolding visit
      visit_passed e h = subst (λ (p : Bool). Told b (shape p (t.closes k v s)) f u f) (sym e) (told_nothing b u f h)

      pub visit_closed : t.visits k v s ≡ true → t.closes k v s ≡ true → u + 1 < found_mark → Told b visited f (u + 1) f
      unfolding visit
      visit_closed e c h = subst (λ (p : Bool). Told b (shape p (t.closes k v s)) f (u + 1) f) (sym e) (subst (λ (q : Bool). Told b (shape true q) f (u + 1) f) (sym c) (rw (add-one u) (told_nothing b (suc u) f (omega arith))))

      pub visit_open : {r g : ℕ} → t.visits k v s ≡ true → t.closes k v s ≡ false → Told b (below s (u + 1)) f r g → Told b visited f r g
      unfolding visit
      visit_open {r} {g} e c h = subst (λ (p : Bool). Told b (shape p (t.closes k v s)) f r g) (sym e) (subst (λ (q : Bool). Told b (shape true q) f r g) (sym c) (subst (λ (w : ℕ). Told b (below s w) f r g) (add-one u) h))

    module _ (left s u b f : ℕ) (e : left ≡ suc k) where
      abbrev out : Outcome
      out = visit t k false (λ s u. descend t k s u) s u

      abbrev into : ℕ → Outcome
      into v = visit t k true (λ s u. descend t k s u) (s + 2 ^ k) v

      descend_suc : descend t left s u ≡ go_on out into
      unfolding descend
      descend_suc = ap (λ (l : ℕ). descend t l s u) e

      -- the search is over once the number passes the budget
      pub descend_over : {r g : ℕ} → b < r → Told b out f r g → Told b (descend t left s u) f r g
      descend_over {r} {g} h told = subst (λ (o : Outcome). Told b o f r g) (sym descend_suc) (step out told)
        where
          late : (o : Outcome) → b < units_of o → b < units_of (go_on o into)
          late (Found x w) p = p
          late (Nothing w) p = omega (arith, visit_rises k true (λ s u. descend t k s u) (descend_rises k) (s + 2 ^ k) w)

          step : (o : Outcome) → Told b o f r g → Told b (go_on o into) f r g
          step o (found x y p q i j) = found x y (ap (λ (o : Outcome). go_on o into) p) q i j
          step o (nothing y p q i j) = absurd (omega arith)
          step o (spent p i j) = spent (late o p) i j

      pub descend_on : {r g r' g' : ℕ} (bit : ℕ) → bit ≡ 2 ^ k → b < found_mark → r ≤ b → Told b out f r g → Told b (visit t k true (λ s u. descend t k s u) (s + bit) r) g r' g' → Told b (descend t left s u) f r' g'
      descend_on {r} {g} {r'} {g'} bit w top h told next₀ = let next = subst (λ (x : ℕ). Told b (visit t k true (λ s u. descend t k s u) (s + x) r) g r' g') w next₀ in subst (λ (o : Outcome). Told b o f r' g') (sym descend_suc) (step out told next)
        where
          step : (o : Outcome) → Told b o f r g → Told b (into r) g r' g' → Told b (go_on o into) f r' g'
          step o (found x y p q i j) next = absurd (omega arith)
          step o (nothing y p q i j) next = subst (λ (o : Outcome). Told b (go_on o into) f r' g') (sym p) (subst (λ (w : ℕ). Told b (into w) f r' g') i (subst (λ (x : ℕ). Told b (into r) x r' g') j next))
          step o (spent p i j) next = absurd (omega arith)
