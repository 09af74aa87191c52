-- Going on from each answer lists the preferred sets: all of them, or those before a step that is spent.
use Prim.Native.Nat.{ℕ, zero, suc, ◌+◌, ◌-◌, ◌^◌, ◌≤◌, ◌<◌}
use mathlib.Core.Path.{◌≡◌, refl, sym, ap, ap₂, ◌∙◌, subst}
use mathlib.Core.Logic.{◌⊎◌, inl, inr, ◌≢◌}
use mathlib.Core.Bool.{Bool, true, false}
use mathlib.Core.List.{List, [], ◌∷◌, map}
use native.Mathlib.Omega.{arith}
use lib.Dec.{T}
use lib.ListN.{length, take, drop, get_or}
use Rattle.rules.specs.Lists.{All, Any, Distinct, filter, keep, from}
use Rattle.rules.specs.Rules.{Rule}
use Rattle.rules.specs.Preferred.{Preferred, is_preferred}
use Rattle.rules.proofs.Lists.{all_imp, all_any, all_at, all_filter, any_filter, any_imp}
use Rattle.rules.proofs.MappedLists.{filter_map}
use Rattle.rules.proofs.Preferred.{preferred_law}
use Rattle.kinds.specs.declared.refusals.Refusal.{Refusal}
use Rattle.rules.specs.Renumbering.{Bijection}
use Rattle.places.specs.Places.{place, set_at}
use Rattle.places.proofs.Places.{by_place}
use Rattle.walks.specs.Order.{walk_order, preferred_sets}
use Rattle.walks.specs.Walk.{capped_next, next_needs, next_verdict}
use Rattle.walks.specs.Listings.{Subsequence, ListsPreferred, go_on, listed, ListingStep, NeverSpent, Whole, step_after, CutShort}
use Rattle.walks.specs.declared.answers.NextState.{NextState}
use Rattle.walks.specs.declared.answers.NextState.TheVariants.{State, Nothing, Spent as NextSpent, Refused as NextRefused}
use Rattle.walks.proofs.Filters.{up_to, passed_over, none_left, taken}
use Rattle.walks.proofs.Order.{sets_by, all_sets, sets_once, sets_from, ordered}
use Rattle.walks.proofs.FirstStates.{next_same, capped_spent, never_refused}
use Rattle.walks.proofs.Foremost.{Foremost, NextFound}
use Rattle.walks.proofs.NextStates.{next_found}

-- what a test keeps of a list

filter_distinct : (p : ℕ → Bool) (l : List ℕ) → Distinct l → Distinct (filter p l)
filter_distinct p [] d = tt
filter_distinct p (x ∷ l) d = step (p x) (filter_distinct p l d.1)
  where
    step : (b : Bool) → Distinct (filter p l) → Distinct (keep b x (filter p l))
    step true h = (all_filter (λ y. x ≢ y) p l (all_imp (λ y. x ≢ y) (λ y. T (p y) → x ≢ y) (λ y f t. f) l d.0), h)
    step false h = h

skipped : (xs : List ℕ) (y : ℕ) (ys : List ℕ) → Subsequence xs ys → Subsequence xs (y ∷ ys)
skipped [] y ys h = tt
skipped (x ∷ xs) y ys h = inr h

filter_part : (p : ℕ → Bool) (l : List ℕ) → Subsequence (filter p l) l
filter_part p [] = tt
filter_part p (x ∷ l) = step (p x) (filter_part p l)
  where
    step : (b : Bool) → Subsequence (filter p l) l → Subsequence (keep b x (filter p l)) (x ∷ l)
    step true h = inl (refl, h)
    step false h = skipped (filter p l) x l h

-- the preferred sets in any order

module _ (ws : List ℕ) (rs : List (Rule ℕ)) (at place : ℕ → ℕ) (b : Bijection (2 ^ length ws) at place) where
  -- those from a start on
  abbrev pub left_by : ℕ → List ℕ
  left_by start = filter (is_preferred ws rs) (drop start (sets_by (length ws) at place b))

  pub only_preferred : All (λ s. (s < 2 ^ length ws) × Preferred ws rs s) (left_by 0)
  only_preferred = all_filter (λ s. (s < 2 ^ length ws) × Preferred ws rs s) (is_preferred ws rs) (sets_by (length ws) at place b)
      ((all_sets (length ws) at place b (λ s. T (is_preferred ws rs s) → (s < 2 ^ length ws) × Preferred ws rs s)).1 (λ s l t. (l, (preferred_law ws rs s).0 t)))

  pub each_preferred : (s : ℕ) → s < 2 ^ length ws → Preferred ws rs s → Any (λ x. x ≡ s) (left_by 0)
  each_preferred s l p = any_filter (λ x. x ≡ s) (is_preferred ws rs) (sets_by (length ws) at place b)
      (any_imp (λ x. x ≡ s) (λ x. T (is_preferred ws rs x) × (x ≡ s)) (λ x e. ((preferred_law ws rs x).1 (subst (Preferred ws rs) (sym e) p), e)) (sets_by (length ws) at place b) ((sets_once (length ws) at place b).each s l))

  -- the step after the first of them
  pub step_by : (c : ℕ) → c ≤ length (left_by 0) → ListingStep place ws rs (step_after place 0 (left_by 0) c)
  step_by zero l = inl refl
  step_by (suc c) l = let h = all_at (λ s. (s < 2 ^ length ws) × Preferred ws rs s) 0 (left_by 0) only_preferred c (omega arith) in inr (get_or (left_by 0) c 0, refl, h.0, h.1)

-- going on from each answer, in any order

module _ (ws : List ℕ) (rs : List (Rule ℕ)) (at place : ℕ → ℕ) (b : Bijection (2 ^ length ws) at place)
    (needs : ℕ → NextState) (next : NextFound ws rs place needs) (budget : ℕ) where
  abbrev pub next_by : ℕ → NextState
  next_by t = capped_next budget (needs t)

  abbrev Unspent : ℕ → Type 0
  Unspent t = (u : ℕ) → next_by t ≡ NextSpent u → ⊥

  abbrev left : ℕ → List ℕ
  left start = left_by ws rs at place b start

  -- the places of what is left
  abbrev kept : ℕ → List ℕ
  kept start = up_to (λ p. is_preferred ws rs (at p)) (2 ^ length ws) start

  left_kept : (start : ℕ) → left start ≡ map at (kept start)
  left_kept start = ap (filter (is_preferred ws rs)) (sets_from (length ws) at place b start) ∙ filter_map at (is_preferred ws rs) (from start (2 ^ length ws - start))

  found : (start s u : ℕ) → next_by start ≡ State s u → Foremost (Preferred ws rs) (length ws) place start s
  found start s u e = next.found start s u ((next_same budget (needs start) (next.answered start) (State s u) tt).0 e).0

  none : (start u : ℕ) → next_by start ≡ Nothing u → (t : ℕ) → t < 2 ^ length ws → start ≤ place t → Preferred ws rs t → ⊥
  none start u e = next.none start u ((next_same budget (needs start) (next.answered start) (Nothing u) tt).0 e).0

  spends : (start u : ℕ) → next_by start ≡ NextSpent u → u ≡ budget
  spends start u e = ((capped_spent budget (needs start) (next.answered start) u).0 e).0

  unrefused : (start : ℕ) (f : Refusal) → next_by start ≡ NextRefused f → ⊥
  unrefused start = never_refused budget (needs start) (next.answered start)

  -- no preferred set at a place where none is found
  not_kept : (x : ℕ) → x < 2 ^ length ws → ((t : ℕ) → t < 2 ^ length ws → place t ≡ x → Preferred ws rs t → ⊥) → T (is_preferred ws rs (at x)) → ⊥
  not_kept x l h t = h (at x) (b.there x l) (b.there_back x l) ((preferred_law ws rs (at x)).0 t)

  -- the next answer is the next entry of the list of preferred sets
  next_entry : (start s u : ℕ) → next_by start ≡ State s u → (start ≤ place s) × (place s < 2 ^ length ws) × (left start ≡ s ∷ left (suc (place s)))
  next_entry start s u e =
      let f = found start s u e in
      let p : place s < 2 ^ length ws = b.back s f.inside in
      let q : at (place s) ≡ s = b.back_there s f.inside in
      let keeps : ℕ → Bool = λ p. is_preferred ws rs (at p) in (
        f.after,
        p,
        left_kept start
            ∙ ap (map at) (passed_over keeps (2 ^ length ws) start (place s) f.after (omega arith) (λ x a l. not_kept x (omega arith) (λ t i z. f.foremost t i (omega arith) (omega arith)))
            ∙ taken keeps (2 ^ length ws) (place s) p ((preferred_law ws rs (at (place s))).1 (subst (Preferred ws rs) (sym q) f.here)))
            ∙ ap₂ (λ (x : ℕ) (l : List ℕ). x ∷ l) q (sym (left_kept (suc (place s)))),
      )

  next_end : (start u : ℕ) → next_by start ≡ Nothing u → left start ≡ []
  next_end start u e =
      left_kept start ∙ ap (map at) (none_left (λ p. is_preferred ws rs (at p)) (2 ^ length ws) start (λ x a l. not_kept x l (λ t i z. none start u e t i (omega arith))))

  -- every step from a start on is answered, and the list is whole
  pub record Done (start : ℕ) (states l : List ℕ) : Type 0 where
    pub here : Unspent start
    pub later : All (λ s. Unspent (suc (place s))) states
    pub same : l ≡ states

  -- the step after c states is the first that is spent
  pub record Stopped (start : ℕ) (states l : List ℕ) : Type 0 where
    pub count : ℕ
    pub inside : count ≤ length states
    pub spent : next_by (step_after place start states count) ≡ NextSpent budget
    pub earlier : (c : ℕ) → c < count → Unspent (step_after place start states c)
    pub same : l ≡ take count states

  abbrev Ended : ℕ → List ℕ → List ℕ → Type 0
  Ended start states l = Done start states l ⊎ Stopped start states l

  not_state : (t s u : ℕ) → next_by t ≡ State s u → Unspent t
  not_state t s u e v f = let z : ◌≡◌ {A = ℕ} 0 1 = cc in omega arith

  not_nothing : (t u : ℕ) → next_by t ≡ Nothing u → Unspent t
  not_nothing t u e v f = let z : ◌≡◌ {A = ℕ} 0 1 = cc in omega arith

  -- one state in front
  one_more : (start s u : ℕ) (states l : List ℕ) → next_by start ≡ State s u → Ended (suc (place s)) states l → Ended start (s ∷ states) (s ∷ l)
  one_more start s u states l e (inl d) = inl (record { here = not_state start s u e; later = (d.here, d.later); same = ap (λ (t : List ℕ). s ∷ t) d.same })
  one_more start s u states l e (inr d) = inr (record {
    count = suc d.count;
    inside = let i = d.inside in omega arith;
    spent = ap next_by (shift d.count) ∙ d.spent;
    earlier = λ c h. before c h;
    same = ap (λ (t : List ℕ). s ∷ t) d.same;
  })
    where
      shift : (c : ℕ) → step_after place start (s ∷ states) (suc c) ≡ step_after place (suc (place s)) states c
      shift zero = refl
      shift (suc c) = refl

      before : (c : ℕ) → c < suc d.count → Unspent (step_after place start (s ∷ states) c)
      before zero h = not_state start s u e
      before (suc c) h = subst Unspent (sym (shift c)) (d.earlier c (omega arith))

  pub from_start_lem : (k start : ℕ) → start ≤ 2 ^ length ws → 2 ^ length ws < start + k → Ended start (left start) (listed place next_by k start)
  from_start_lem zero start l h = absurd (omega arith)
  from_start_lem (suc k) start l h = step (next_by start) refl (λ t a g. from_start_lem k t a g)
    where
      step : (v : NextState) → next_by start ≡ v → ((t : ℕ) → t ≤ 2 ^ length ws → 2 ^ length ws < t + k → Ended t (left t) (listed place next_by k t))
          → Ended start (left start) (go_on place v (λ t. listed place next_by k t))
      step (State s u) e r =
          let n = next_entry start s u e in
          let a = n.0 in
          let c = n.1 in
          subst (λ (x : List ℕ). Ended start x (s ∷ listed place next_by k (suc (place s)))) (sym n.2)
          (one_more start s u (left (suc (place s))) (listed place next_by k (suc (place s))) e (r (suc (place s)) (omega arith) (omega arith)))
      step (Nothing u) e r = inl (subst (λ (x : List ℕ). Done start x []) (sym (next_end start u e)) (record { here = not_nothing start u e; later = tt; same = refl }))
      step (NextSpent u) e r = inr (record { count = 0; inside = omega arith; spent = e ∙ ap NextSpent (spends start u e); earlier = λ c h. absurd (omega arith); same = refl })
      step (NextRefused f) e r = absurd (unrefused start f e)

  -- where no step is spent, all preferred sets are listed
  pub all_listed : NeverSpent place ws rs next_by → (k : ℕ) → 2 ^ length ws < k → listed place next_by k 0 ≡ left 0
  all_listed never k h = whole (from_start_lem k 0 (omega arith) (omega arith))
    where
      whole : Ended 0 (left 0) (listed place next_by k 0) → listed place next_by k 0 ≡ left 0
      whole (inl d) = d.same
      whole (inr d) = absurd (never (step_after place 0 (left 0) d.count) budget (step_by ws rs at place b d.count d.inside) d.spent)

-- in the order of the walks

module _ (ws : List ℕ) (rs : List (Rule ℕ)) where
  pub lists_preferred : ListsPreferred ws rs (preferred_sets ws rs)
  unfolding preferred_sets walk_order
  lists_preferred = record {
    each = each_preferred ws rs (set_at (length ws)) (place (length ws)) (by_place (length ws));
    once = filter_distinct (is_preferred ws rs) (walk_order (length ws)) (ordered (length ws)).each_once.once;
    only = only_preferred ws rs (set_at (length ws)) (place (length ws)) (by_place (length ws));
    in_order_lem = filter_part (is_preferred ws rs) (walk_order (length ws));
  }

  -- the step after the first preferred sets
  pub step_after_lem : (c : ℕ) → c ≤ length (preferred_sets ws rs) → ListingStep (place (length ws)) ws rs (step_after (place (length ws)) 0 (preferred_sets ws rs) c)
  unfolding preferred_sets walk_order
  step_after_lem = step_by ws rs (set_at (length ws)) (place (length ws)) (by_place (length ws))

  module _ (budget : ℕ) where
    abbrev next : ℕ → NextState
    next t = next_verdict ws rs t budget

    abbrev PlaceDone : List ℕ → Type 0
    PlaceDone l = Done ws rs (set_at (length ws)) (place (length ws)) (by_place (length ws)) (next_needs ws rs) (next_found ws rs) budget 0 (preferred_sets ws rs) l

    abbrev PlaceStopped : List ℕ → Type 0
    PlaceStopped l = Stopped ws rs (set_at (length ws)) (place (length ws)) (by_place (length ws)) (next_needs ws rs) (next_found ws rs) budget 0 (preferred_sets ws rs) l

    ended : (k : ℕ) → 2 ^ length ws < k → PlaceDone (listed (place (length ws)) next k 0) ⊎ PlaceStopped (listed (place (length ws)) next k 0)
    unfolding next_verdict walk_order preferred_sets
    ended k h = from_start_lem ws rs (set_at (length ws)) (place (length ws)) (by_place (length ws)) (next_needs ws rs) (next_found ws rs) budget k 0 (omega arith) (omega arith)

    -- no step is spent and the listing has all preferred sets, or it has those before the first step that is spent
    pub listing : (k : ℕ) → 2 ^ length ws < k → Whole ws rs budget (listed (place (length ws)) next k 0) ⊎ CutShort ws rs budget (listed (place (length ws)) next k 0)
    unfolding next_verdict walk_order
    listing k h = outcome (ended k h)
      where
        outcome : PlaceDone (listed (place (length ws)) next k 0) ⊎ PlaceStopped (listed (place (length ws)) next k 0) → Whole ws rs budget (listed (place (length ws)) next k 0) ⊎ CutShort ws rs budget (listed (place (length ws)) next k 0)
        outcome (inl d) = inl (record { unspent = λ t u p. unspent d t p u; states = d.same })
          where
            unspent : PlaceDone (listed (place (length ws)) next k 0) → (t : ℕ) → ListingStep (place (length ws)) ws rs t → (u : ℕ) → next t ≡ NextSpent u → ⊥
            unspent d t (inl e) = subst (λ (x : ℕ). (u : ℕ) → next x ≡ NextSpent u → ⊥) (sym e) d.here
            unspent d t (inr p) =
                let x = all_any (λ s. (u : ℕ) → next (suc (place (length ws) s)) ≡ NextSpent u → ⊥) (λ x. x ≡ p.0) (preferred_sets ws rs) d.later (lists_preferred.each p.0 p.2 p.3) in
                subst (λ (x : ℕ). (u : ℕ) → next x ≡ NextSpent u → ⊥) (ap (λ (s : ℕ). suc (place (length ws) s)) x.2 ∙ sym p.1) x.1
        outcome (inr d) = inr (record { count = d.count; inside = d.inside; step = step_after_lem d.count d.inside; spent = d.spent; earlier = λ c u l. d.earlier c l u; states = d.same })
