-- The next state over masks is that of the rules and classes (document 02, W-207).
use Prim.Native.Nat.{ℕ, zero, suc, ◌+◌, ◌-◌, ◌^◌, ◌≤◌, ◌<◌}
use mathlib.Core.Path.{◌≡◌, refl, sym, ap, ap₂, ◌∙◌, subst}
use mathlib.Core.Bool.{Bool, true, false, not, cond, ◌||◌}
use mathlib.Core.List.{List, [], ◌∷◌, map}
use native.Mathlib.Omega.{arith}
use lib.Dec.{T, leb, ltb, leb→le, le→leb, ltb→lt, lt→ltb}
use lib.ListN.{length}
use borrow.Author.Tests.{eq-eqb, ne_eqb}
use Rattle.kinds.specs.Limits.{walk_atoms, class_limit, fixed}
use Rattle.rules.specs.Lists.{All, filter, keep}
use Rattle.rules.specs.Sets.{has}
use Rattle.rules.specs.Rules.{Rule, is_model}
use Rattle.rules.specs.Preferred.{of_class}
use Rattle.rules.proofs.Booleans.{T_of, T-not-in, T-not-out, bool_ext, is_false}
use Rattle.places.specs.Places.{place}
use Rattle.places.proofs.Places.{turned_twice}
use Rattle.choices.specs.Choices.{Choice, choice, RulesBelow, is_closed, visited, is_final, is_before}
use Rattle.choices.proofs.Closing.{closed_in, closed_out}
use Rattle.choices.proofs.Starts.{none_before, before_out, before_in}
use Rattle.choices.proofs.Trees.{visited_closed}
use Rattle.walks.specs.Walk.{free_course, candidates, after, first_state, preferred_needs, next_needs}
use Rattle.walks.specs.declared.answers.Verdict.{Verdict}
use Rattle.walks.specs.declared.answers.Verdict.TheVariants.{Yes, Broken, Beaten, Spent, Refused}
use Rattle.walks.specs.declared.answers.NextState.TheVariants.{State}
use Rattle.masks.specs.AnswersAt.{verdict_at, next_at}
use Rattle.masks.specs.Masks.{place_mask, care_at, want_at, class_masks}
use Rattle.groups.specs.Groups.{root_group, broken_in, GroupsOf}
use Rattle.descent.specs.Descent.{Outcome, Nothing, Asked, go_on, descend}
use Rattle.descent.specs.Visits.{first_found, decide, Tied}
use Rattle.descent.specs.Verdicts.{preferred_m}
use Rattle.descent.proofs.Decided.{place_none}
use Rattle.descent.proofs.Searched.{descends_all}
use Rattle.descent.proofs.GroupedRules.{group_closes, root_closes}
use Rattle.descent.proofs.JudgedChoices.{OfAtoms, all_of_atoms}
use Rattle.descent.proofs.PreferredMasks.{preferred_masks}
use Rattle.lister.specs.NextMasks.{candidate, from_start, next_outcome, next_of}

-- what a candidate comes to does not tell the set that beats it
same_candidate : (n : ℕ) (v : Verdict) (s u : ℕ) → candidate (verdict_at n v) s u ≡ candidate v s u
unfolding verdict_at
same_candidate n (Yes w) s u = refl
same_candidate n (Broken i) s u = refl
same_candidate n (Beaten t w) s u = refl
same_candidate n (Spent w) s u = refl
same_candidate n (Refused f) s u = refl

-- choices judged one after another, the final ones with a verdict, give the first state
module _ (n : ℕ) (verdict : ℕ → Verdict) where
  abbrev judge : Choice → ℕ → Outcome
  judge k u = cond (is_final n k) (candidate (verdict k.taken) (place n k.taken) u) (Nothing u)

  found_states : (l : List Choice) (u : ℕ) → All (OfAtoms n) l → next_at n (next_of (first_found judge l u)) ≡ first_state (λ k. k.taken) (is_final n) verdict l u
  unfolding first_found first_state next_at
  found_states [] u h = refl
  found_states (k ∷ l) u h = step (is_final n k) (verdict k.taken) (λ v. found_states l v h.1)
    where
      step : (b : Bool) (v : Verdict) → ((u : ℕ) → next_at n (next_of (first_found judge l u)) ≡ first_state (λ k. k.taken) (is_final n) verdict l u)
          → next_at n (next_of (go_on (cond b (candidate v (place n k.taken) (suc u)) (Nothing (suc u))) (λ v. first_found judge l v)))
          ≡ cond b (after v k.taken u (λ v. first_state (λ k. k.taken) (is_final n) verdict l v)) (first_state (λ k. k.taken) (is_final n) verdict l (suc u))
      step true (Yes w) r = ap (λ (s : ℕ). State s (suc u + w)) (turned_twice n k.taken h.0)
      step true (Broken i) r = r (suc u)
      step true (Beaten t w) r = r (suc u + w)
      step true (Spent w) r = r (suc u)
      step true (Refused f) r = r (suc u)
      step false v r = r (suc u)

kept_of_atoms : (n : ℕ) (p : Choice → Bool) (l : List Choice) → All (OfAtoms n) l → All (OfAtoms n) (filter p l)
kept_of_atoms n p [] h = tt
kept_of_atoms n p (k ∷ l) h = step (p k) (kept_of_atoms n p l h.1)
  where
    step : (b : Bool) → All (OfAtoms n) (filter p l) → All (OfAtoms n) (keep b k (filter p l))
    step true r = (h.0, r)
    step false r = r

later : (a b : ℕ) → not (leb a b) ≡ ltb b a
later a b = bool_ext (not (leb a b)) (ltb b a)
    (λ t. lt→ltb b a (let f : (a ≤ b) → ⊥ = λ l. T-not-out (leb a b) t (le→leb a b l) in omega arith))
    (λ t. T-not-in (leb a b) (λ q. let l = leb→le a b q in let m = ltb→lt b a t in omega arith))

module _ (ws : List ℕ) (rs : List (Rule ℕ)) (few : length ws ≤ walk_atoms) (below : RulesBelow (length ws) rs) (plain : All (λ r. r.nots ≡ []) rs)
    (care want starts : List ℕ) (groups : GroupsOf (map (care_at (length ws)) rs) (map (want_at (length ws)) rs) care want starts) (start : ℕ) where
  abbrev n : ℕ
  n = length ws

  abbrev classes : List ℕ
  classes = class_masks ws 1 class_limit

  abbrev held : ℕ
  held = place_mask n (of_class ws fixed)

  abbrev asked : Asked
  asked = from_start care want starts classes held n start

  abbrev kept : Choice → Bool
  kept k = not (is_before n start k)

  abbrev judged : Choice → ℕ → Outcome
  judged = judge n (preferred_needs ws rs)

  visits : (d k x : ℕ) (v : Bool) → suc d + k ≡ n → x < 2 ^ d → T (kept (choice d x)) → (v || ltb start (place n (decide d v x) + 2 ^ k)) ≡ kept (choice (suc d) (decide d v x))
  visits d k x false e h t = sym (ap not (before_out n start d k x e) ∙ later (place n x + 2 ^ k) start)
  visits d k x true e h t = sym (ap not (before_in n start d k x e h ∙ is_false (is_before n start (choice d x)) (T-not-out (is_before n start (choice d x)) t)))

  no_model : (x : ℕ) → x < 2 ^ n → is_closed rs n x ≡ true → (u : ℕ) → judged (choice n x) u ≡ Nothing u
  unfolding preferred_needs
  no_model x h c u =
      let none : is_model rs (has x) ≡ false = is_false (is_model rs (has x)) (closed_out n n x x (record { set = h; same = λ a l. refl }) rs (T_of (sym c) tt)) in
      rw (eq-eqb n n refl, none)

  a_model : (x u : ℕ) → is_closed rs n x ≡ false → judged (choice n x) u ≡ candidate (preferred_m care want starts classes held n (place n x)) (place n x) u
  a_model x u o =
      ap (λ (b : Bool). cond b (candidate (preferred_needs ws rs x) (place n x) u) (Nothing u)) (eq-eqb n n refl)
      ∙ ap (λ (v : Verdict). candidate v (place n x) u) (sym (preferred_masks ws rs few below plain care want starts groups x (closed_in n x rs below (λ t. T_of o t))))
      ∙ same_candidate n (preferred_m care want starts classes held n (place n x)) (place n x) u

  tied : Tied (free_course rs) n kept judged asked
  tied = record {
    closes = group_closes n few rs below plain care want starts groups;
    visits = visits;
    dropped = λ left d x e h f. none_before (free_course rs) n start left d x e h (before_if d x f);
    partial = λ k u l. ap (λ (b : Bool). cond b (candidate (preferred_needs ws rs k.taken) (place n k.taken) u) (Nothing u)) (ne_eqb k.decided n (λ e. omega arith));
    closed = λ x u h c. no_model x h c u;
    ends = λ x u h f o. a_model x u o;
  }
    where
      before_if : (d x : ℕ) → kept (choice d x) ≡ false → T (is_before n start (choice d x))
      before_if d x f = step (is_before n start (choice d x)) f
        where
          step : (b : Bool) → not b ≡ false → T b
          step true q = tt
          step false q = absurd (T_of q tt)

  abbrev visited_kept : List Choice
  visited_kept = filter kept (visited (free_course rs) n 0 0)

  -- the empty choice has all places
  root_before : is_before n start (choice 0 0) ≡ leb (2 ^ n) start
  root_before = ap (λ (p : ℕ). leb p start) (let z : place n 0 + 2 ^ (n - 0) ≡ 2 ^ n = (let m : n - 0 ≡ n = omega arith in ap₂ (λ (a b : ℕ). a + 2 ^ b) (place_none n) m ∙ (omega arith)) in z)

  outcome : next_outcome care want starts classes held n start ≡ first_found judged visited_kept 0
  unfolding next_outcome first_found
  outcome = step (leb (2 ^ n) start) refl (broken_in care want starts root_group 0) (root_closes n few rs below plain care want starts groups)
    where
      none : leb (2 ^ n) start ≡ true → visited_kept ≡ []
      none e = none_before (free_course rs) n start n 0 0 (omega arith) (omega arith) (T_of (sym (root_before ∙ e)) tt)

      root_kept : leb (2 ^ n) start ≡ false → kept (choice 0 0) ≡ true
      root_kept e = ap not (root_before ∙ e)

      root_judged : (m : ℕ) → n ≡ m → is_closed rs 0 0 ≡ true → judged (choice 0 0) 1 ≡ Nothing 1
      root_judged zero e c = subst (λ (d : ℕ). judged (choice d 0) 1 ≡ Nothing 1) e (no_model 0 (subst (λ (d : ℕ). 0 < 2 ^ d) (sym e) (omega arith)) (ap (λ (d : ℕ). is_closed rs d 0) e ∙ c) 1)
      root_judged (suc m) e c = tied.partial (choice 0 0) 1 (omega arith)

      step : (a : Bool) → leb (2 ^ n) start ≡ a → (b : Bool) → b ≡ is_closed rs 0 0 → cond a (Nothing 0) (cond b (Nothing 1) (descend asked n 0 1)) ≡ first_found judged visited_kept 0
      step true ea b eb = sym (ap (λ (l : List Choice). first_found judged l 0) (none ea) ∙ first_none)
        where
          first_none : first_found judged [] 0 ≡ Nothing 0
          first_none = refl
      step false ea true eb =
          sym (ap (λ (l : List Choice). first_found judged (filter kept l) 0) (visited_closed (free_course rs) n 0 0 (sym eb))
          ∙ ap (λ (b : Bool). first_found judged (keep b (choice 0 0) []) 0) (root_kept ea)
          ∙ ap (λ (o : Outcome). go_on o (λ v. Nothing v)) (root_judged n refl (sym eb)))
      step false ea false eb = descends_all (free_course rs) n kept judged asked tied (sym eb) (T_of (sym (root_kept ea)) tt)

  pub next_masks : next_at n (next_of (next_outcome care want starts classes held n start)) ≡ next_needs ws rs start
  unfolding next_needs candidates
  next_masks =
      ap (λ (o : Outcome). next_at n (next_of o)) outcome
      ∙ found_states n (preferred_needs ws rs) visited_kept 0 (kept_of_atoms n kept (visited (free_course rs) n 0 0) (all_of_atoms (free_course rs) n))
