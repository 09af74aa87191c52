-- The final choices visited that pass a test are, in order, those among the sets that the course allows, where no set below a closed choice passes it.
use Prim.Native.Nat.{ℕ, zero, suc, ◌+◌, ◌^◌, ◌<◌}
use mathlib.Core.Path.{◌≡◌, refl, sym, ap, ap₂, ◌∙◌, subst}
use mathlib.Core.Bool.{Bool, true, false, not, cond, ◌&&◌}
use mathlib.Core.List.{List, [], ◌∷◌, ◌++◌, map, map-append}
use native.Mathlib.Omega.{arith}
use native.Mathlib.Decide.{ℕ_discrete}
use lib.Dec.{T}
use borrow.Author.Tests.{eq-eqb, ne_eqb}
use Rattle.rules.specs.Lists.{keep, filter, from}
use Rattle.rules.specs.Sets.{has}
use Rattle.rules.proofs.Booleans.{T_of, T-and-l, T-and-r, T-not-in, T-not-out, is_true_lem, bool_ext}
use Rattle.rules.proofs.Lists.{all_imp, every_from}
use Rattle.rules.proofs.MappedLists.{map_keep}
use Rattle.places.specs.Places.{set_at}
use Rattle.choices.specs.Choices.{Choice, choice, Course, visited, is_final, is_fitting}
use Rattle.rules.proofs.Filtered.{filter_app, filter_and, filter_none}
use Rattle.choices.proofs.MoreAtoms.{top_out, top_in, low_in, wide_out, wide_in, Extends}
use Rattle.choices.proofs.SetsBelow.{sets, sets_extend, sets_place}
use Rattle.choices.proofs.Trees.{branch, visited_closed, visited_open}

-- a course closes no model off and leaves no other set unclosed
pub record Sound (c : Course) (n : ℕ) (model : ℕ → Bool) : Type 0 where
  pub closes : (d x s : ℕ) → T (c.closed d x) → Extends n d x s → T (model s) → ⊥
  pub leaves : (s : ℕ) → s < 2 ^ n → (T (c.closed n s) → ⊥) → T (model s)

module _ (c : Course) (n : ℕ) (model : ℕ → Bool) (sound : Sound c n model) where
  -- among the final choices the models are those that are not closed
  pub model_open : (s : ℕ) → s < 2 ^ n → model s ≡ not (c.closed n s)
  model_open s h = bool_ext (model s) (not (c.closed n s))
      (λ t. T-not-in (c.closed n s) (λ q. sound.closes n s s q (record { set = h; same = λ a l. refl }) t))
      (λ t. sound.leaves s h (T-not-out (c.closed n s) t))

-- a test that no set below a closed choice passes
module _ (c : Course) (n : ℕ) (test : ℕ → Bool) (closes : (d x s : ℕ) → T (c.closed d x) → Extends n d x s → T (test s) → ⊥) where
  abbrev ok : ℕ → Bool
  ok s = is_fitting c n s && test s

  abbrev Fit : ℕ → ℕ → Type 0
  Fit d x = (a : ℕ) → a < d → T (c.may a (has x a))

  fits_law : (s : ℕ) → Fit n s → T (is_fitting c n s)
  unfolding is_fitting
  fits_law s h = (every_from (λ a. c.may a (has s a)) (λ a. T (c.may a (has s a))) (λ a. (λ t. t, λ t. t)) 0 n).1 (λ a l u. h a (omega arith))

  fits_out : (s a : ℕ) → a < n → T (is_fitting c n s) → T (c.may a (has s a))
  unfolding is_fitting
  fits_out s a l h = (every_from (λ a. c.may a (has s a)) (λ a. T (c.may a (has s a))) (λ a. (λ t. t, λ t. t)) 0 n).0 h a (omega arith) (omega arith)

  fit_more : (d x y : ℕ) (v : Bool) → ((a : ℕ) → a < d → has y a ≡ has x a) → has y d ≡ v → Fit d x → T (c.may d v) → Fit (suc d) y
  fit_more d x y v same top f t a l = go (ℕ_discrete a d)
    where
      go : Dec (a ≡ d) → T (c.may a (has y a))
      go (yes e) = subst (λ (j : ℕ). T (c.may j (has y j))) (sym e) (T_of (ap (c.may d) (sym top)) t)
      go (no e) = let k : a < d = omega arith in T_of (ap (c.may a) (sym (same a k))) (f a k)

  -- a branch whose first atom may not be what it is has no allowed set
  barred : (left d y : ℕ) (v : Bool) → suc d + left ≡ n → y < 2 ^ suc d → has y d ≡ v → (T (c.may d v) → ⊥) → filter ok (sets left (suc d) y) ≡ []
  barred left d y v e h top bars = filter_none ok (sets left (suc d) y) (all_imp (Extends n (suc d) y) (λ s. T (ok s) → ⊥)
      (λ s r t. bars (T_of (ap (c.may d) (r.same d (omega arith) ∙ top)) (fits_out s d (omega arith) (T-and-l (is_fitting c n s) (test s) t))))
      (sets left (suc d) y) (sets_extend n left (suc d) y e h))

  abbrev is_found : Choice → Bool
  is_found k = is_final n k && test k.taken

  abbrev finals : List Choice → List ℕ
  finals l = map (λ k. k.taken) (filter is_found l)

  finals_app : (l r : List Choice) → finals (l ++ r) ≡ finals l ++ finals r
  finals_app l r = ap (map (λ k. k.taken)) (filter_app is_found l r) ∙ map-append (λ k. k.taken) (filter is_found l) (filter is_found r)

  one_way : (b : Bool) (l : List Choice) (r : List ℕ) → (T b → finals l ≡ r) → ((T b → ⊥) → r ≡ []) → finals (cond b l []) ≡ r
  one_way true l r f g = f tt
  one_way false l r f g = sym (g (λ t. t))

  finals_below : (left d x : ℕ) → d + left ≡ n → x < 2 ^ d → Fit d x → finals (visited c left d x) ≡ filter ok (sets left d x)
  unfolding visited sets
  finals_below zero d x e h f =
      let full : d ≡ n = omega arith in
      map_keep (λ k. k.taken) (is_found (choice d x)) (choice d x) []
      ∙ ap (λ (b : Bool). keep (b && test x) x []) (eq-eqb d n full ∙ sym (is_true_lem (is_fitting c n x) (fits_law x (subst (λ (j : ℕ). Fit j x) full f))))
  finals_below (suc left) d x e h f = step (c.closed d x) refl
      (λ t. finals_below left (suc d) x deep (wide_out d x h) (fit_more d x x false (λ a l. refl) (top_out d x h) f t))
      (λ t. finals_below left (suc d) (x + 2 ^ d) deep (wide_in d x h) (fit_more d x (x + 2 ^ d) true (λ a l. low_in d x a h l) (top_in d x h) f t))
    where
      deep : suc d + left ≡ n
      deep = omega arith

      none : T (c.closed d x) → filter ok (sets (suc left) d x) ≡ []
      none t = filter_none ok (sets (suc left) d x)
          (all_imp (Extends n d x) (λ s. T (ok s) → ⊥) (λ s r k. closes d x s t r (T-and-r (is_fitting c n s) (test s) k)) (sets (suc left) d x) (sets_extend n (suc left) d x e h))

      skip : (l : List Choice) → finals (choice d x ∷ l) ≡ finals l
      skip l = ap (λ (b : Bool). map (λ (k : Choice). k.taken) (keep (b && test x) (choice d x) (filter is_found l))) (ne_eqb d n (λ q. omega arith))

      step : (b : Bool) → c.closed d x ≡ b
          → (T (c.may d false) → finals (visited c left (suc d) x) ≡ filter ok (sets left (suc d) x))
          → (T (c.may d true) → finals (visited c left (suc d) (x + 2 ^ d)) ≡ filter ok (sets left (suc d) (x + 2 ^ d)))
          → finals (visited c (suc left) d x) ≡ filter ok (sets (suc left) d x)
      step true q r1 r2 = ap finals (visited_closed c (suc left) d x q) ∙ skip [] ∙ sym (none (T_of (sym q) tt))
      step false q r1 r2 =
          ap finals (visited_open c left d x q)
          ∙ skip (branch c d false left x ++ branch c d true left (x + 2 ^ d))
          ∙ finals_app (branch c d false left x) (branch c d true left (x + 2 ^ d))
          ∙ ap₂ (λ (l r : List ℕ). l ++ r)
          (one_way (c.may d false) (visited c left (suc d) x) (filter ok (sets left (suc d) x)) r1 (barred left d x false deep (wide_out d x h) (top_out d x h)))
          (one_way (c.may d true) (visited c left (suc d) (x + 2 ^ d)) (filter ok (sets left (suc d) (x + 2 ^ d))) r2 (barred left d (x + 2 ^ d) true deep (wide_in d x h) (top_in d x h)))
          ∙ sym (filter_app ok (sets left (suc d) x) (sets left (suc d) (x + 2 ^ d)))

  pub finals_tested : map (λ k. k.taken) (filter (λ k. is_final n k && test k.taken) (visited c n 0 0)) ≡ filter test (filter (is_fitting c n) (map (set_at n) (from 0 (2 ^ n))))
  finals_tested = finals_below n 0 0 (omega arith) (omega arith) (λ a l. absurd (omega arith)) ∙ ap (filter ok) (sets_place n) ∙ filter_and (is_fitting c n) test (map (set_at n) (from 0 (2 ^ n)))
