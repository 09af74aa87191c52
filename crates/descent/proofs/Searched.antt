-- The descent is the search over the choices visited, in their sequence.
use Prim.Native.Nat.{ℕ, zero, suc, ◌+◌, ◌^◌, ◌<◌}
use mathlib.Core.Path.{◌≡◌, refl, sym, ap, ap₂, ◌∙◌, subst, fun_ext}
use mathlib.Core.Bool.{Bool, true, false, cond, ◌&&◌}
use mathlib.Core.List.{List, [], ◌∷◌, ◌++◌}
use native.Mathlib.Omega.{arith}
use native.Mathlib.Decide.{ℕ_discrete}
use lib.Dec.{T}
use Rattle.rules.specs.Lists.{keep, filter}
use Rattle.rules.specs.Sets.{has}
use Rattle.rules.proofs.Booleans.{T_of, is_true_lem}
use Rattle.places.specs.Places.{place}
use Rattle.choices.specs.Choices.{Choice, choice, Course, visited}
use Rattle.rules.proofs.Filtered.{filter_app}
use Rattle.choices.proofs.MorePlaces.{place_in}
use Rattle.choices.proofs.Trees.{branch, visited_closed, visited_open}
use Rattle.descent.specs.Descent.{Outcome, Found, Nothing, go_on, Asked, visit, descend}
use Rattle.descent.specs.Visits.{first_found, decide, Fits, Tied}
use Rattle.descent.proofs.Decided.{decided_wide, decided_top, decided_low, place_none}

module _ (judge : Choice → ℕ → Outcome) where
  pub first_app : (l r : List Choice) (u : ℕ) → first_found judge (l ++ r) u ≡ go_on (first_found judge l u) (λ v. first_found judge r v)
  unfolding first_found
  first_app [] r u = refl
  first_app (k ∷ l) r u = step (judge k (suc u)) (first_app l r)
    where
      step : (o : Outcome) → ((v : ℕ) → first_found judge (l ++ r) v ≡ go_on (first_found judge l v) (λ v. first_found judge r v))
          → go_on o (λ v. first_found judge (l ++ r) v) ≡ go_on (go_on o (λ v. first_found judge l v)) (λ v. first_found judge r v)
      step (Found s v) f = refl
      step (Nothing v) f = f v

  -- a choice alone
  first_one : (k : Choice) (u : ℕ) → first_found judge (k ∷ []) u ≡ judge k (suc u)
  unfolding first_found
  first_one k u = step (judge k (suc u))
    where
      step : (o : Outcome) → go_on o (λ v. Nothing v) ≡ o
      step (Found s v) = refl
      step (Nothing v) = refl

  first_passed : (k : Choice) (l : List Choice) (u : ℕ) → judge k (suc u) ≡ Nothing (suc u) → first_found judge (k ∷ l) u ≡ first_found judge l (suc u)
  unfolding first_found
  first_passed k l u e = ap (λ (o : Outcome). go_on o (λ v. first_found judge l v)) e

fits_more : (c : Course) (d x : ℕ) (v : Bool) → x < 2 ^ d → Fits c d x → c.may d v ≡ true → Fits c (suc d) (decide d v x)
fits_more c d x v h f m a l = step (ℕ_discrete a d)
  where
    step : Dec (a ≡ d) → T (c.may a (has (decide d v x) a))
    step (yes e) = subst (λ (j : ℕ). T (c.may j (has (decide d v x) j))) (sym e) (T_of (sym (ap (c.may d) (decided_top d x h v) ∙ m)) tt)
    step (no e) = let k : a < d = omega arith in T_of (ap (c.may a) (sym (decided_low d x h v a k))) (f a k)

module _ (c : Course) (n : ℕ) (kept : Choice → Bool) (judge : Choice → ℕ → Outcome) (t : Asked) (tied : Tied c n kept judge t) where
  abbrev found : List Choice → ℕ → Outcome
  found l u = first_found judge (filter kept l) u

  kept_first : (k : Choice) (l : List Choice) → T (kept k) → filter kept (k ∷ l) ≡ k ∷ filter kept l
  kept_first k l h = ap (λ (b : Bool). keep b k (filter kept l)) (is_true_lem (kept k) h)

  judged_closed : (left d x u : ℕ) → d + left ≡ n → x < 2 ^ d → c.closed d x ≡ true → judge (choice d x) u ≡ Nothing u
  judged_closed zero d x u e = let f : d ≡ n = omega arith in rw f (tied.closed x u)
  judged_closed (suc left) d x u e = λ h q. tied.partial (choice d x) u (omega arith)

  judged_open : (d x u : ℕ) → d + 0 ≡ n → x < 2 ^ d → Fits c d x → c.closed d x ≡ false → judge (choice d x) u ≡ t.ends (place n x) u
  judged_open d x u e = let f : d ≡ n = omega arith in rw f (tied.ends x u)

  -- one value of the next atom, where what lies below an open choice is searched
  module _ (d k x : ℕ) (e : suc d + k ≡ n) (h : x < 2 ^ d) (is_open : c.closed d x ≡ false) (is-kept : T (kept (choice d x))) (v : Bool) where
    abbrev y : ℕ
    y = decide d v x

    visits_branch : (c.may d v ≡ true → c.closed (suc d) y ≡ false → T (kept (choice (suc d) y)) → (u : ℕ) → descend t k (place n y) (suc u) ≡ found (visited c k (suc d) y) u)
        → (u : ℕ) → visit t k v (λ s u. descend t k s u) (place n y) u ≡ found (branch c d v k y) u
    unfolding visit first_found
    visits_branch below u =
        ap₂ (λ (p q : Bool). cond p (cond q (Nothing (suc u)) (descend t k (place n y) (suc u))) (Nothing u)) (tied.visits d k x v e h is-kept) (tied.closes d k x v e h is_open)
        ∙ step (c.may d v) (kept (choice (suc d) y)) (c.closed (suc d) y) refl refl refl
      where
        step : (p q r : Bool) → c.may d v ≡ p → kept (choice (suc d) y) ≡ q → c.closed (suc d) y ≡ r
            → cond (p && q) (cond r (Nothing (suc u)) (descend t k (place n y) (suc u))) (Nothing u) ≡ found (cond p (visited c k (suc d) y) []) u
        step true true true may keeps shut =
            sym (ap (λ (l : List Choice). found l u) (visited_closed c k (suc d) y shut)
            ∙ ap (λ (l : List Choice). first_found judge l u) (kept_first (choice (suc d) y) [] (T_of (sym keeps) tt))
            ∙ first_one judge (choice (suc d) y) u ∙ judged_closed k (suc d) y (suc u) e (decided_wide d x h v) shut)
        step true true false may keeps shut = below may shut (T_of (sym keeps) tt) u
        step true false r may keeps shut = sym (ap (λ (l : List Choice). first_found judge l u) (tied.dropped k (suc d) y e (decided_wide d x h v) keeps))
        step false q r may keeps shut = refl

  pub descends : (left d x u : ℕ) → d + left ≡ n → x < 2 ^ d → Fits c d x → c.closed d x ≡ false → T (kept (choice d x)) → descend t left (place n x) (suc u) ≡ first_found judge (filter kept (visited c left d x)) u
  unfolding descend visited
  descends zero d x u e h f o k = sym (ap (λ (l : List Choice). first_found judge l u) (kept_first (choice d x) [] k) ∙ first_one judge (choice d x) u ∙ judged_open d x (suc u) e h f o)
  descends (suc left) d x u e h f o k =
      let deep : suc d + left ≡ n = omega arith in
      let out = branch c d false left x in
      let into = branch c d true left (x + 2 ^ d) in
      let value : (v : Bool) (w : ℕ) → visit t left v (λ s u. descend t left s u) (place n (decide d v x)) w ≡ found (branch c d v left (decide d v x)) w =
      λ v. visits_branch d left x deep h o k v (λ m q s w. descends left (suc d) (decide d v x) w deep (decided_wide d x h v) (fits_more c d x v h f m) q s) in
      ap₂ go_on (value false (suc u)) (fun_ext (λ w. ap (λ (s : ℕ). visit t left true (λ s u. descend t left s u) s w) (sym (place_in d left n x deep h)) ∙ value true w))
      ∙ sym (ap (λ (l : List Choice). found l u) (visited_open c left d x o)
      ∙ ap (λ (l : List Choice). first_found judge l u) (kept_first (choice d x) (out ++ into) k)
      ∙ first_passed judge (choice d x) (filter kept (out ++ into)) u (tied.partial (choice d x) (suc u) (omega arith))
      ∙ ap (λ (l : List Choice). first_found judge l (suc u)) (filter_app kept out into)
      ∙ first_app judge (filter kept out) (filter kept into) (suc u))

  pub descends_all : c.closed 0 0 ≡ false → T (kept (choice 0 0)) → descend t n 0 1 ≡ first_found judge (filter kept (visited c n 0 0)) 0
  descends_all o k = ap (λ (s : ℕ). descend t n s 1) (sym (place_none n)) ∙ descends n 0 0 0 (omega arith) (omega arith) (λ a l. absurd (omega arith)) o k
