-- The stable verdict over masks is that of the reduct (document 02, W-207): the final choice m is visited last, so its unit is the one too many.
use Prim.Native.Nat.{ℕ, zero, suc, ◌+◌, ◌-◌, ◌^◌, ◌≤◌, ◌<◌}
use mathlib.Core.Path.{◌≡◌, refl, sym, ap, ap₂, ◌∙◌}
use mathlib.Core.Bool.{Bool, true, false, not, cond, ◌&&◌, ◌||◌}
use mathlib.Core.List.{List, [], ◌∷◌, ◌++◌, map}
use native.Mathlib.Omega.{arith}
use native.Mathlib.Nat.{mod-one}
use lib.Dec.{T, eqb, eqb→eq}
use lib.Bits.{bit_and, and_zero_r}
use lib.ListN.{replicate}
use borrow.Author.Tests.{eq-eqb, ne_eqb}
use Rattle.kinds.specs.Limits.{walk_atoms, class_limit}
use Rattle.rules.specs.Lists.{All, filter, keep}
use Rattle.rules.specs.Sets.{has}
use Rattle.rules.specs.Rules.{Rule, reduct, is_model, first_broken}
use Rattle.rules.proofs.Booleans.{T_of, T-imp-out, bool_ext, is_true_lem, is_false, eq_to_eqb}
use Rattle.rules.proofs.Sets.{has_below}
use Rattle.places.specs.Places.{mirror, place}
use Rattle.places.proofs.Places.{place_lt, place_atoms, turned_twice}
use Rattle.choices.specs.Choices.{Choice, choice, RulesBelow, is_closed, visited, is_final, is_set}
use Rattle.choices.proofs.Closing.{closed_in, closed_out, prefix_open}
use Rattle.choices.proofs.LastFinal.{last_final}
use Rattle.walks.specs.Walk.{stable_course, stable_walk, is_final_and, search, stable_needs}
use Rattle.walks.specs.declared.answers.Verdict.TheVariants.{Yes, Broken}
use Rattle.masks.specs.AnswersAt.{verdict_at}
use Rattle.masks.specs.Masks.{care_at, want_at, agree_m, within_m, spares_m}
use Rattle.masks.proofs.MaskBits.{inside}
use Rattle.groups.specs.Groups.{GroupsOf}
use Rattle.descent.specs.Descent.{Outcome, Found, Nothing, Asked, go_on, descend}
use Rattle.descent.specs.Search.{better, better_set}
use Rattle.descent.specs.Visits.{first_found, Fits, Tied}
use Rattle.descent.specs.Verdicts.{all_of, verdict_of, stable_of, one_class, stable_m}
use Rattle.descent.proofs.Searched.{first_app, descends_all}
use Rattle.descent.proofs.GroupedRules.{group_closes}
use Rattle.descent.proofs.AllowedValues.{has_all, subset_values}
use Rattle.descent.proofs.JudgedChoices.{judge_by, OfAtoms, all_of_atoms, found_searched, found_same}
use Rattle.descent.proofs.PreferredMasks.{all_kept, and-true}

no_classes : (m s k : ℕ) → spares_m m s (replicate k 0) ≡ false
unfolding spares_m agree_m
no_classes m s zero = refl
no_classes m s (suc k) = ap (λ (b : Bool). cond b (spares_m m s (replicate k 0)) (within_m m s 0)) (eq-eqb (bit_and s 0) (bit_and m 0) (and_zero_r s ∙ sym (and_zero_r m))) ∙ no_classes m s k

-- of n atoms all count
all_count : (n s : ℕ) → s < 2 ^ n → bit_and s (all_of n) ≡ s
all_count n s h = eqb→eq (bit_and s (all_of n)) s ((inside s (all_of n)).1 (λ i t. T_of (sym (has_all n i (has_below n s i h t))) tt))

-- any proper part of m is spared
part_spared : (n m s : ℕ) → m < 2 ^ n → s < 2 ^ n → ((i : ℕ) → T (has s i) → T (has m i)) → spares_m m s (one_class n) ≡ not (eqb s m)
unfolding spares_m agree_m within_m
part_spared n m s hm hs part =
    ap₂ (λ (a b : ℕ). cond (eqb a b) (spares_m m s (replicate (class_limit - 1) 0)) (eqb (bit_and a m) a)) (all_count n s hs) (all_count n m hm)
    ∙ ap (λ (b : Bool). cond (eqb s m) b (eqb (bit_and s m) s)) (no_classes m s (class_limit - 1))
    ∙ ap (λ (b : Bool). cond (eqb s m) false b) (is_true_lem (eqb (bit_and s m) s) ((inside s m).1 part))
    ∙ flip (eqb s m)
  where
    flip : (b : Bool) → cond b false true ≡ not b
    flip true = refl
    flip false = refl

-- the last unit is left out
last_off : (o : Outcome) → stable_of (go_on o (λ v. Nothing (suc v))) ≡ verdict_of o
last_off (Found s u) = refl
last_off (Nothing u) = let e : suc u - 1 ≡ u = omega arith in ap Yes e

module _ (n : ℕ) (few : n ≤ walk_atoms) (rs : List (Rule ℕ)) (m : ℕ) (m-inside : m < 2 ^ n) (model : T (is_model (reduct rs (has m)) (has m)))
    (below : RulesBelow n (reduct rs (has m))) (plain : All (λ r. r.nots ≡ []) (reduct rs (has m)))
    (care want starts : List ℕ) (groups : GroupsOf (map (care_at n) (reduct rs (has m))) (map (want_at n) (reduct rs (has m))) care want starts) where
  abbrev q : ℕ
  q = place n m

  abbrev rules : List (Rule ℕ)
  rules = reduct rs (has m)

  abbrev asked : Asked
  asked = better_set care want starts (one_class n) (all_of n) q q

  abbrev smaller : ℕ → Bool
  smaller s = is_model rules (has s)

  abbrev test : Choice → Bool
  test = is_final_and n (λ s. not (eqb s m) && smaller s)

  -- an allowed set is a subset of m
  part : (x : ℕ) → x < 2 ^ n → Fits (stable_course rs m) n x → (i : ℕ) → T (has (place n x) i) → T (has q i)
  part x h f i t =
      let l : i < n = has_below n (place n x) i (place_lt n x) t in
      let a : mirror n (mirror n i) ≡ i = omega arith in
      let s : mirror n i < n = omega arith in
      let x-in : T (has x (mirror n i)) = T_of (ap (has (place n x)) (sym a) ∙ place_atoms n x (mirror n i) s) t in
      T_of (sym (ap (has q) (sym a) ∙ place_atoms n m (mirror n i) s)) (T-imp-out (has x (mirror n i)) (has m (mirror n i)) (f (mirror n i) s) x-in)

  same_place : (x : ℕ) → x < 2 ^ n → eqb (place n x) q ≡ eqb x m
  same_place x h = bool_ext (eqb (place n x) q) (eqb x m)
      (λ t. eq_to_eqb x m (sym (turned_twice n x h) ∙ ap (place n) (eqb→eq (place n x) q t) ∙ turned_twice n m m-inside))
      (λ t. eq_to_eqb (place n x) q (ap (place n) (eqb→eq x m t)))

  better_open : (x : ℕ) → x < 2 ^ n → Fits (stable_course rs m) n x → is_closed rules n x ≡ false → spares_m q (place n x) (one_class n) ≡ (not (eqb x m) && smaller x)
  better_open x h f o =
      part_spared n q (place n x) (place_lt n m) (place_lt n x) (part x h f)
      ∙ ap not (same_place x h)
      ∙ sym (ap (λ (b : Bool). not (eqb x m) && b) (is_true_lem (smaller x) (closed_in n x rules below (λ t. T_of o t))) ∙ and-true (not (eqb x m)))

  tied : Tied (stable_course rs m) n (λ k. true) (judge_by n test) asked
  unfolding better
  tied = record {
    closes = group_closes n few rules below plain care want starts groups;
    visits = λ d k x v e h t. subset_values n m d k v e ∙ sym (and-true (not v || has m d));
    dropped = λ left d x e h f. absurd (T_of f tt);
    partial = λ k u l. ap (λ (b : Bool). cond (b && (not (eqb k.taken m) && smaller k.taken)) (Found (place n k.taken) u) (Nothing u)) (ne_eqb k.decided n (λ e. omega arith));
    closed = λ x u h c. ap (λ (b : Bool). cond b (Found (place n x) u) (Nothing u)) (no_model x h c);
    ends = λ x u h f o. ap₂ (λ (a b : Bool). cond (a && b) (Found (place n x) u) (Nothing u)) (eq-eqb n n refl) (sym (better_open x h f o));
  }
    where
      off : (b : Bool) → (b && false) ≡ false
      off true = refl
      off false = refl

      no_model : (x : ℕ) → x < 2 ^ n → is_closed rules n x ≡ true → test (choice n x) ≡ false
      no_model x h c =
          let none : smaller x ≡ false = is_false (smaller x) (closed_out n n x x (record { set = h; same = λ a l. refl }) rules (T_of (sym c) tt)) in
          ap₂ (λ (a b : Bool). a && (not (eqb x m) && b)) (eq-eqb n n refl) none ∙ off (not (eqb x m))

  abbrev all : List Choice
  all = visited (stable_course rs m) n 0 0

  abbrev others : List Choice
  others = filter (λ k. not (is_set n m k)) all

  -- m itself is judged worse
  own : (u : ℕ) → judge_by n test (choice n m) u ≡ Nothing u
  own u = ap₂ (λ (a b : Bool). cond (a && (not b && smaller m)) (Found (place n m) u) (Nothing u)) (eq-eqb n n refl) (eq-eqb m m refl)

  -- among the others the tests agree
  alike : (l : List Choice) → All (λ k. (u : ℕ) → judge_by n test k u ≡ judge_by n (is_final_and n smaller) k u) (filter (λ k. not (is_set n m k)) l)
  alike [] = tt
  alike (k ∷ l) = step (is_set n m k) refl (alike l)
    where
      one : (f e t : Bool) → (f && e) ≡ false → (f && (not e && t)) ≡ (f && t)
      one true true t q = absurd (T_of q tt)
      one true false t q = refl
      one false e t q = refl

      step : (b : Bool) → is_set n m k ≡ b → All (λ k. (u : ℕ) → judge_by n test k u ≡ judge_by n (is_final_and n smaller) k u) (filter (λ k. not (is_set n m k)) l)
          → All (λ k. (u : ℕ) → judge_by n test k u ≡ judge_by n (is_final_and n smaller) k u) (keep (not b) k (filter (λ k. not (is_set n m k)) l))
      step true e r = r
      step false e r = (λ u. ap (λ (b : Bool). cond b (Found (place n k.taken) u) (Nothing u)) (one (is_final n k) (eqb k.taken m) (smaller k.taken) e), r)

  last : all ≡ others ++ (choice n m ∷ [])
  last = last_final (stable_course rs m) n m m-inside (λ d l. prefix_open rules m model d) (λ d l. own_value (has m d)) (λ d l e. e)
    where
      own_value : (b : Bool) → (not b || b) ≡ true
      own_value true = refl
      own_value false = refl

  others_of_atoms : (l : List Choice) → All (OfAtoms n) l → All (OfAtoms n) (filter (λ k. not (is_set n m k)) l)
  others_of_atoms [] h = tt
  others_of_atoms (k ∷ l) h = step (not (is_set n m k)) (others_of_atoms l h.1)
    where
      step : (b : Bool) → All (OfAtoms n) (filter (λ k. not (is_set n m k)) l) → All (OfAtoms n) (keep b k (filter (λ k. not (is_set n m k)) l))
      step true r = (h.0, r)
      step false r = r

  outcome : descend asked n 0 1 ≡ go_on (first_found (judge_by n test) others 0) (λ v. Nothing (suc v))
  unfolding first_found
  outcome =
      descends_all (stable_course rs m) n (λ k. true) (judge_by n test) asked tied (ap (is_closed rules 0) (sym (mod-one m)) ∙ prefix_open rules m model 0) tt
      ∙ ap (λ (l : List Choice). first_found (judge_by n test) l 0) (all_kept all ∙ last)
      ∙ first_app (judge_by n test) others (choice n m ∷ []) 0
      ∙ on (first_found (judge_by n test) others 0)
    where
      on : (o : Outcome) → go_on o (λ v. go_on (judge_by n test (choice n m) (suc v)) (λ w. Nothing w)) ≡ go_on o (λ v. Nothing (suc v))
      on (Found s u) = refl
      on (Nothing u) = ap (λ (o : Outcome). go_on o (λ w. Nothing w)) (own (suc u))

  pub stable_masks : T (is_model rs (has m)) → verdict_at n (stable_m care want starts n q) ≡ stable_needs n rs m
  unfolding stable_m stable_needs stable_walk
  stable_masks whole =
      ap (λ (o : Outcome). verdict_at n (stable_of o)) outcome
      ∙ ap (verdict_at n) (last_off (first_found (judge_by n test) others 0))
      ∙ ap (λ (o : Outcome). verdict_at n (verdict_of o)) (found_same (judge_by n test) (judge_by n (is_final_and n smaller)) others 0 (alike all))
      ∙ found_searched n (is_final_and n smaller) others 0 (others_of_atoms all (all_of_atoms (stable_course rs m) n))
      ∙ ap (λ (b : Bool). cond b (search (λ k. k.taken) (is_final_and n smaller) others 0) (Broken (first_broken rs (has m)))) (sym (is_true_lem (is_model rs (has m)) whole))
