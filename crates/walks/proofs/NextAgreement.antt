-- Where neither is spent, the next state of the walk that stops at a broken rule is that of the full walk (document 02, W-207).
use Prim.Native.Nat.{ℕ, suc, ◌+◌, ◌-◌, ◌^◌, ◌≤◌}
use mathlib.Core.Path.{◌≡◌, refl, sym, ap, ap₂, ◌∙◌}
use mathlib.Core.Bool.{Bool, true, false, not, cond, ◌&&◌}
use mathlib.Core.List.{List, [], ◌∷◌, ◌++◌, map, map-id}
use native.Mathlib.Omega.{arith}
use native.Mathlib.Decide.{dec_le}
use lib.Dec.{T, eqb→eq, leb, leb→le, le→leb}
use lib.ListN.{length, drop}
use Rattle.rules.specs.Lists.{All, keep, filter, from}
use Rattle.rules.specs.Sets.{has}
use Rattle.rules.specs.Rules.{Rule, is_model}
use Rattle.rules.proofs.Booleans.{T_of, T-and-r, T-not-in, T-not-out}
use Rattle.rules.proofs.Lists.{all_from, from_append, every_from}
use Rattle.rules.proofs.MappedLists.{filter_map}
use Rattle.rules.proofs.Rules.{model_law}
use Rattle.places.specs.Places.{place, set_at}
use Rattle.places.proofs.Places.{by_place}
use Rattle.choices.specs.Choices.{Choice, choice, visited, is_final, is_before, is_fitting}
use Rattle.rules.proofs.Filtered.{filter_none, filter_every, filter_app, filter_and, filter_same}
use Rattle.choices.proofs.Starts.{before_final}
use Rattle.walks.specs.Order.{walk_order}
use Rattle.walks.specs.Walk.{free_course, is_final_and, candidates, preferred_needs, after, first_state, next_needs}
use Rattle.walks.specs.FullWalk.{full_preferred_needs, full_next_needs, bare, bare_next}
use Rattle.walks.specs.declared.answers.Verdict.{Verdict}
use Rattle.walks.specs.declared.answers.Verdict.TheVariants.{Yes, Broken, Beaten, Spent, Refused}
use Rattle.walks.specs.declared.answers.NextState.{NextState}
use Rattle.walks.specs.declared.answers.NextState.TheVariants.{State, Nothing}
use Rattle.walks.proofs.Order.{all_walk_order, sets_from}
use Rattle.walks.proofs.FullWalk.{full_yes}
use Rattle.walks.proofs.Agreement.{finals, preferred_same}

abbrev is_yes : Verdict → Bool
is_yes (Yes u) = true
is_yes (Broken i) = false
is_yes (Beaten s u) = false
is_yes (Spent u) = false
is_yes (Refused f) = false

yes_bare : (v : Verdict) → is_yes (bare v) ≡ is_yes v
yes_bare (Yes u) = refl
yes_bare (Broken i) = refl
yes_bare (Beaten s u) = refl
yes_bare (Spent u) = refl
yes_bare (Refused f) = refl

yes_is : (v : Verdict) → T (is_yes v) → (u : ℕ) × (v ≡ Yes u)
yes_is (Yes u) t = (u, refl)
yes_is (Broken i) t = absurd t
yes_is (Beaten s u) t = absurd t
yes_is (Spent u) t = absurd t
yes_is (Refused f) t = absurd t

-- without its units the next state is the first of those whose verdict is yes
abbrev foremost : List ℕ → NextState
foremost [] = Nothing 0
foremost (s ∷ l) = State s 0

bare_first : {A : Type 0} (set : A → ℕ) (final : A → Bool) (verdict : ℕ → Verdict) (l : List A) (u : ℕ) → bare_next (first_state set final verdict l u) ≡ foremost (map set (filter (λ x. final x && is_yes (verdict (set x))) l))
unfolding first_state
bare_first set final verdict [] u = refl
bare_first {A} set final verdict (x ∷ l) u = step (final x) (verdict (set x)) (bare_first set final verdict l)
  where
    kept : List A
    kept = filter (λ x. final x && is_yes (verdict (set x))) l

    step : (b : Bool) (v : Verdict) → ((u : ℕ) → bare_next (first_state set final verdict l u) ≡ foremost (map set kept))
        → bare_next (cond b (after v (set x) u (λ v. first_state set final verdict l v)) (first_state set final verdict l (suc u))) ≡ foremost (map set (keep (b && is_yes v) x kept))
    step true (Yes w) r = refl
    step true (Broken i) r = r (suc u)
    step true (Beaten s w) r = r (suc u + w)
    step true (Spent w) r = r (suc u)
    step true (Refused f) r = r (suc u)
    step false v r = r (suc u)

-- the places from the start on
from_start_lem : (n start : ℕ) → filter (λ p. not (leb (suc p) start)) (from 0 n) ≡ from start (n - start)
from_start_lem n start = go (dec_le start n)
  where
    late : ℕ → Bool
    late p = not (leb (suc p) start)

    early : (c : ℕ) → c ≤ start → filter late (from 0 c) ≡ []
    early c h = filter_none late (from 0 c) (all_from (λ p. T (late p) → ⊥) 0 c (λ p l u t. T-not-out (leb (suc p) start) t (le→leb (suc p) start (omega arith))))

    go : Dec (start ≤ n) → filter late (from 0 n) ≡ from start (n - start)
    go (yes h) =
        let e : n ≡ start + (n - start) = omega arith in
        let z : 0 + start ≡ start = omega arith in
        ap (λ (c : ℕ). filter late (from 0 c)) e
        ∙ ap (filter late) (sym (from_append 0 start (n - start)))
        ∙ filter_app late (from 0 start) (from (0 + start) (n - start))
        ∙ ap₂ (λ (x y : List ℕ). x ++ y) (early start (omega arith))
        (filter_every late (from (0 + start) (n - start)) (all_from (λ p. T (late p)) (0 + start) (n - start) (λ p l u. T-not-in (leb (suc p) start) (λ t. let q = leb→le (suc p) start t in omega arith)))
        ∙ ap (λ (a : ℕ). from a (n - start)) z)
    go (no h) = early n (omega arith) ∙ (let e : 0 ≡ n - start = omega arith in ap (from start) e)

module _ (n start : ℕ) where
  -- a set's place is not before the start
  abbrev is_late : ℕ → Bool
  is_late s = not (leb (suc (place n s)) start)

  late_sets : filter is_late (walk_order n) ≡ drop start (walk_order n)
  unfolding walk_order
  late_sets =
      filter_map (set_at n) is_late (from 0 (2 ^ n))
      ∙ ap (map (set_at n)) (filter_same (λ p. is_late (set_at n p)) (λ p. not (leb (suc p) start)) (from 0 (2 ^ n))
      (all_from (λ p. is_late (set_at n p) ≡ not (leb (suc p) start)) 0 (2 ^ n) (λ p l u. ap (λ (q : ℕ). not (leb (suc q) start)) ((by_place n).there_back p (omega arith))))
      ∙ from_start_lem (2 ^ n) start)
      ∙ sym (sets_from n (set_at n) (place n) (by_place n) start)

  -- among the choices not wholly before the start, the final ones are those whose place is not
  late_choices : (test : ℕ → Bool) (l : List Choice) → filter (is_final_and n test) (filter (λ k. not (is_before n start k)) l) ≡ filter (is_final_and n (λ s. is_late s && test s)) l
  late_choices test l =
      sym (filter_and (λ k. not (is_before n start k)) (is_final_and n test) l)
      ∙ filter_same (λ k. not (is_before n start k) && is_final_and n test k) (is_final_and n (λ s. is_late s && test s)) l (all l)
    where
      known : (k : Choice) (b : Bool) → is_final n k ≡ b → (not (is_before n start k) && (b && test k.taken)) ≡ (b && (is_late k.taken && test k.taken))
      known k true q =
          let full : k.decided ≡ n = eqb→eq k.decided n (T_of (sym q) tt) in
          ap (λ (d : ℕ). not (is_before n start (choice d k.taken)) && test k.taken) full ∙ ap (λ (b : Bool). not b && test k.taken) (before_final n start k.taken)
      known k false q = none (not (is_before n start k))
        where
          none : (b : Bool) → (b && false) ≡ false
          none true = refl
          none false = refl

      one : (k : Choice) → (not (is_before n start k) && is_final_and n test k) ≡ is_final_and n (λ s. is_late s && test s) k
      one k = known k (is_final n k) refl

      all : (l : List Choice) → All (λ k. (not (is_before n start k) && is_final_and n test k) ≡ is_final_and n (λ s. is_late s && test s) k) l
      all [] = tt
      all (k ∷ l) = (one k, all l)

  free_fits : (rs : List (Rule ℕ)) → filter (is_fitting (free_course rs) n) (walk_order n) ≡ walk_order n
  unfolding is_fitting
  free_fits rs = filter_every (is_fitting (free_course rs) n) (walk_order n) ((all_walk_order n (λ s. T (is_fitting (free_course rs) n s))).1 (λ s l. (every_from (λ a. true) (λ a. Unit {0}) (λ a. (λ t. tt, λ t. tt)) 0 n).1 (λ a p q. tt)))

module _ (ws : List ℕ) (rs : List (Rule ℕ)) (start : ℕ) where
  abbrev wanted : ℕ → Bool
  wanted s = is_yes (full_preferred_needs ws rs s)

  same_wanted : (s : ℕ) → is_yes (preferred_needs ws rs s) ≡ wanted s
  same_wanted s = sym (yes_bare (preferred_needs ws rs s)) ∙ ap is_yes (preferred_same ws rs s) ∙ yes_bare (full_preferred_needs ws rs s)

  only_models : (s : ℕ) → T (is_late (length ws) start s && wanted s) → T (is_model rs (has s))
  only_models s t = (model_law rs (has s)).1 ((full_yes ws rs s).0 (yes_is (full_preferred_needs ws rs s) (T-and-r (is_late (length ws) start s) (wanted s) t))).model

  candidates_wanted : map (λ k. k.taken) (filter (is_final_and (length ws) wanted) (candidates ws rs start)) ≡ filter wanted (drop start (walk_order (length ws)))
  unfolding candidates
  candidates_wanted =
      ap (map (λ k. k.taken)) (late_choices (length ws) start wanted (visited (free_course rs) (length ws) 0 0))
      ∙ finals rs (λ a v. true) (length ws) (λ s. is_late (length ws) start s && wanted s) only_models
      ∙ ap (filter (λ s. is_late (length ws) start s && wanted s)) (free_fits (length ws) start rs)
      ∙ filter_and (is_late (length ws) start) wanted (walk_order (length ws))
      ∙ ap (filter wanted) (late_sets (length ws) start)

  pub next_same_bare : bare_next (next_needs ws rs start) ≡ bare_next (full_next_needs ws rs start)
  unfolding next_needs full_next_needs
  next_same_bare =
      bare_first (λ k. k.taken) (is_final (length ws)) (preferred_needs ws rs) (candidates ws rs start) 0
      ∙ ap (λ (l : List Choice). foremost (map (λ k. k.taken) l)) (filter_same (is_final_and (length ws) (λ s. is_yes (preferred_needs ws rs s))) (is_final_and (length ws) wanted) (candidates ws rs start) (alike (candidates ws rs start)))
      ∙ ap foremost (candidates_wanted ∙ sym (map-id (filter wanted (drop start (walk_order (length ws))))))
      ∙ sym (bare_first (λ s. s) (λ s. true) (full_preferred_needs ws rs) (drop start (walk_order (length ws))) 0)
    where
      alike : (l : List Choice) → All (λ k. is_final_and (length ws) (λ s. is_yes (preferred_needs ws rs s)) k ≡ is_final_and (length ws) wanted k) l
      alike [] = tt
      alike (k ∷ l) = (ap (λ (b : Bool). is_final (length ws) k && b) (same_wanted k.taken), alike l)
