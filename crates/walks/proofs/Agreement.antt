-- Where neither is spent, the walk that stops at a broken rule and the full walk agree (document 02, W-207): the final choices visited that may be better are, in order, the sets of the full walk that may.
use Prim.Native.Nat.{ℕ, suc, ◌^◌, ◌<◌}
use mathlib.Core.Path.{◌≡◌, refl, sym, ap, ◌∙◌}
use mathlib.Core.Bool.{Bool, true, false, not, cond, ◌&&◌, ◌||◌}
use mathlib.Core.List.{List, [], ◌∷◌, map, map-id}
use native.Mathlib.Omega.{arith}
use lib.Dec.{T, eqb}
use lib.ListN.{length, get_or}
use Rattle.kinds.specs.Limits.{fixed, class_limit}
use Rattle.rules.specs.Lists.{All, every, keep, filter, from}
use Rattle.rules.specs.Sets.{has}
use Rattle.rules.specs.Rules.{Rule, reduct, is_model, first_broken}
use Rattle.rules.specs.Stable.{is_subset}
use Rattle.rules.specs.Preferred.{of_class, is_same, are_agreeing, is_sparing, is_beating}
use Rattle.rules.proofs.Booleans.{T-and-l, T-and-r, T-imp, T-imp-out, bool_ext}
use Rattle.rules.proofs.Lists.{every_from}
use Rattle.rules.proofs.Sets.{has_below}
use Rattle.rules.proofs.Stable.{subset_law}
use Rattle.choices.specs.Choices.{Choice, is_closed, visited, is_final, is_set, is_fitting}
use Rattle.choices.proofs.Closing.{closed_out}
use Rattle.choices.proofs.Finals.{finals_tested}
use Rattle.rules.proofs.Filtered.{filter_and, filter_same}
use Rattle.walks.specs.Order.{walk_order}
use Rattle.walks.specs.Walk.{preferred_course, stable_course, is_final_and, preferred_walk, stable_walk, search, preferred_needs, stable_needs}
use Rattle.walks.specs.FullWalk.{agreeing, is_proper, proper_subsets, full_preferred_needs, full_stable_needs, bare}
use Rattle.walks.specs.declared.answers.Verdict.{Verdict}
use Rattle.walks.specs.declared.answers.Verdict.TheVariants.{Yes, Broken, Beaten}
use Rattle.walks.proofs.Order.{all_walk_order}

-- without its units a walk's answer is the first of what its test keeps
first_of : List ℕ → Verdict
first_of [] = Yes 0
first_of (s ∷ l) = Beaten s 0

bare_search : {A : Type 0} (set : A → ℕ) (better : A → Bool) (l : List A) (u : ℕ) → bare (search set better l u) ≡ first_of (map set (filter better l))
unfolding search first_of
bare_search set better [] u = refl
bare_search set better (x ∷ l) u = step (better x) (bare_search set better l (suc u))
  where
    step : (b : Bool) → bare (search set better l (suc u)) ≡ first_of (map set (filter better l)) → bare (cond b (Beaten (set x) (suc u)) (search set better l (suc u))) ≡ first_of (map set (keep b x (filter better l)))
    step true e = refl
    step false e = e

same_first : {A : Type 0} (set : A → ℕ) (better : A → Bool) (l : List A) (test : ℕ → Bool) (sets : List ℕ) → map set (filter better l) ≡ filter test sets
    → bare (search set better l 0) ≡ bare (search (λ s. s) test sets 0)
same_first set better l test sets e = bare_search set better l 0 ∙ ap first_of (e ∙ sym (map-id (filter test sets))) ∙ sym (bare_search (λ s. s) test sets 0)

same_verdict : (b : Bool) (i : ℕ) (v w : Verdict) → bare v ≡ bare w → bare (cond b v (Broken i)) ≡ bare (cond b w (Broken i))
same_verdict true i v w e = e
same_verdict false i v w e = refl

-- the sets of n atoms that a test keeps
kept_alike : (n : ℕ) (p q : ℕ → Bool) → ((s : ℕ) → s < 2 ^ n → p s ≡ q s) → filter p (walk_order n) ≡ filter q (walk_order n)
kept_alike n p q h = filter_same p q (walk_order n) ((all_walk_order n (λ s. p s ≡ q s)).1 h)

-- the final choices that pass a test which only models pass
pub finals : (rs : List (Rule ℕ)) (may : ℕ → Bool → Bool) (n : ℕ) (test : ℕ → Bool) → ((s : ℕ) → T (test s) → T (is_model rs (has s)))
    → map (λ k. k.taken) (filter (is_final_and n test) (visited (record { closed = is_closed rs; may = may }) n 0 0)) ≡ filter test (filter (is_fitting (record { closed = is_closed rs; may = may }) n) (walk_order n))
unfolding walk_order
finals rs may n test only = finals_tested (record { closed = is_closed rs; may = may }) n test (λ d x s c e t. closed_out n d x s e rs c (only s t))

every_filter : (p q : ℕ → Bool) (l : List ℕ) → every p (filter q l) ≡ every (λ a. not (q a) || p a) l
every_filter p q [] = refl
every_filter p q (x ∷ l) = step (q x) (every_filter p q l)
  where
    step : (b : Bool) → every p (filter q l) ≡ every (λ a. not (q a) || p a) l → every p (keep b x (filter q l)) ≡ ((not b || p x) && every (λ a. not (q a) || p a) l)
    step true e = ap (λ (z : Bool). p x && z) e
    step false e = e

module _ (ws : List ℕ) (rs : List (Rule ℕ)) (m : ℕ) where
  abbrev beating : ℕ → Bool
  beating s = is_beating ws rs s m

  fits_agree : (s : ℕ) → is_fitting (preferred_course ws rs m) (length ws) s ≡ are_agreeing (of_class ws fixed) s m
  unfolding is_fitting
  fits_agree s = sym (every_filter (λ a. is_same (has s a) (has m a)) (λ a. eqb (get_or ws a 0) fixed) (from 0 (length ws)))

  pub preferred_finals : map (λ k. k.taken) (filter (is_final_and (length ws) (λ s. is_beating ws rs s m)) (preferred_walk ws rs m)) ≡ filter (λ s. is_beating ws rs s m) (agreeing ws m (walk_order (length ws)))
  unfolding preferred_walk
  preferred_finals =
      finals rs (preferred_course ws rs m).may (length ws) beating (λ s t. T-and-l (is_model rs (has s)) (are_agreeing (of_class ws fixed) s m && is_sparing ws (from 1 class_limit) s m) t)
      ∙ ap (filter beating) (kept_alike (length ws) (is_fitting (preferred_course ws rs m) (length ws)) (λ s. are_agreeing (of_class ws fixed) s m) (λ s l. fits_agree s))

  pub preferred_same : bare (preferred_needs ws rs m) ≡ bare (full_preferred_needs ws rs m)
  unfolding preferred_needs full_preferred_needs
  preferred_same = same_verdict (is_model rs (has m)) (first_broken rs (has m))
      (search (λ k. k.taken) (is_final_and (length ws) beating) (preferred_walk ws rs m) 0) (search (λ s. s) beating (agreeing ws m (walk_order (length ws))) 0)
      (same_first (λ k. k.taken) (is_final_and (length ws) beating) (preferred_walk ws rs m) beating (agreeing ws m (walk_order (length ws))) preferred_finals)

module _ (n : ℕ) (rs : List (Rule ℕ)) (m : ℕ) where
  abbrev smaller : ℕ → Bool
  smaller s = is_model (reduct rs (has m)) (has s)

  fits_subset : (s : ℕ) → s < 2 ^ n → is_fitting (stable_course rs m) n s ≡ is_subset s m
  unfolding is_fitting
  fits_subset s l =
      let law = every_from (λ a. not (has s a) || has m a) (λ a. T (has s a) → T (has m a)) (λ a. (T-imp-out (has s a) (has m a), T-imp (has s a) (has m a))) 0 n in
      bool_ext (is_fitting (stable_course rs m) n s) (is_subset s m)
      (λ t. (subset_law s m).1 (λ i h. law.0 t i (omega arith) (omega (arith, has_below n s i l h)) h))
      (λ t. law.1 (λ a p q. (subset_law s m).0 t a))

  -- the final choice m is left out of what the test keeps
  other : (l : List Choice) → filter (is_final_and n smaller) (filter (λ k. not (is_set n m k)) l) ≡ filter (is_final_and n (λ s. not (eqb s m) && smaller s)) l
  other l = sym (filter_and (λ k. not (is_set n m k)) (is_final_and n smaller) l)
      ∙ filter_same (λ k. not (is_set n m k) && is_final_and n smaller k) (is_final_and n (λ s. not (eqb s m) && smaller s)) l (all l)
    where
      step : (f e t : Bool) → (not (f && e) && (f && t)) ≡ (f && (not e && t))
      step true e t = refl
      step false e t = refl

      all : (l : List Choice) → All (λ k. (not (is_set n m k) && is_final_and n smaller k) ≡ is_final_and n (λ s. not (eqb s m) && smaller s) k) l
      all [] = tt
      all (k ∷ l) = (step (is_final n k) (eqb k.taken m) (smaller k.taken), all l)

  pub stable_finals : map (λ k. k.taken) (filter (is_final_and n (λ s. is_model (reduct rs (has m)) (has s))) (stable_walk n rs m)) ≡ filter (λ s. is_model (reduct rs (has m)) (has s)) (proper_subsets m (walk_order n))
  unfolding stable_walk
  stable_finals =
      ap (map (λ k. k.taken)) (other (visited (stable_course rs m) n 0 0))
      ∙ finals (reduct rs (has m)) (stable_course rs m).may n (λ s. not (eqb s m) && smaller s) (λ s t. T-and-r (not (eqb s m)) (smaller s) t)
      ∙ filter_and (λ s. not (eqb s m)) smaller (filter (is_fitting (stable_course rs m) n) (walk_order n))
      ∙ ap (filter smaller) (sym (filter_and (is_fitting (stable_course rs m) n) (λ s. not (eqb s m)) (walk_order n))
      ∙ kept_alike n (λ s. is_fitting (stable_course rs m) n s && not (eqb s m)) (λ s. is_proper s m) (λ s l. ap (λ (b : Bool). b && not (eqb s m)) (fits_subset s l)))

  pub stable_same : bare (stable_needs n rs m) ≡ bare (full_stable_needs n rs m)
  unfolding stable_needs full_stable_needs
  stable_same = same_verdict (is_model rs (has m)) (first_broken rs (has m))
      (search (λ k. k.taken) (is_final_and n smaller) (stable_walk n rs m) 0) (search (λ s. s) smaller (proper_subsets m (walk_order n)) 0)
      (same_first (λ k. k.taken) (is_final_and n smaller) (stable_walk n rs m) smaller (proper_subsets m (walk_order n)) stable_finals)
