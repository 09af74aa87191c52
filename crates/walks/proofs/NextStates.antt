-- What the next state means (document 01, "Next state"; document 02, W-207).
use Prim.Native.Nat.{ℕ, suc}
use mathlib.Core.Path.{◌≡◌, refl, sym, ap, ◌∙◌}
use mathlib.Core.Logic.{◌↔◌, inl, inr}
use mathlib.Core.List.{List, [], ◌∷◌}
use native.Mathlib.Omega.{arith}
use lib.Dec.{T, eqb→eq}
use lib.ListN.{length, take}
use Rattle.rules.specs.Lists.{sum}
use Rattle.rules.specs.Rules.{Rule}
use Rattle.rules.specs.Preferred.{Preferred}
use Rattle.rules.proofs.Booleans.{eq_to_eqb}
use Rattle.places.specs.Places.{place, set_at}
use Rattle.places.proofs.Places.{by_place, in_places}
use Rattle.choices.specs.Choices.{Choice, choice, is_final}
use Rattle.walks.specs.Order.{walk_order}
use Rattle.walks.specs.Walk.{candidates, preferred_needs, next_needs, next_verdict}
use Rattle.walks.specs.FullWalk.{full_preferred_needs, full_next_needs, bare_next}
use Rattle.walks.specs.Meanings.{EarliestFrom, FinalAnd, ChoiceUnits, TotalUnits, FoundState, NoState, NextUnits, NextMeans}
use Rattle.walks.specs.declared.answers.Verdict.TheVariants.{Yes}
use Rattle.walks.specs.declared.answers.NextState.{NextState}
use Rattle.walks.specs.declared.answers.NextState.TheVariants.{State, Nothing, Spent as NextSpent, Refused as NextRefused}
use Rattle.walks.proofs.FirstStates.{NextAnswered, next_units, next_same, capped_spent, never_refused, first_answered, first_nothing, first_state_lem}
use Rattle.walks.proofs.FullWalk.{full_answered, full_yes}
use Rattle.walks.proofs.Meanings.{preferred_answered, yes_law, choice_cost, cost_law, first_final}
use Rattle.walks.proofs.Foremost.{NextFound, sets_found}
use Rattle.walks.proofs.NextAgreement.{next_same_bare}

-- units together
total_law : (Units : Choice → ℕ → Type 0) (cost : Choice → ℕ) → ((k : Choice) (c : ℕ) → Units k c ↔ (c ≡ cost k)) → (l : List Choice) (u : ℕ) → TotalUnits Units l u ↔ (u ≡ sum cost l)
total_law Units cost law [] u = (λ e. e, λ e. e)
total_law Units cost law (k ∷ l) u = (
  λ h. let c = (law k h.0).0 h.2 in let v = (total_law Units cost law l h.1).0 h.3 in let e = h.4 in omega arith,
  λ e. (cost k, sum cost l, (law k (cost k)).1 refl, (total_law Units cost law l (sum cost l)).1 refl, e),
)

-- an answer without its units tells the state
bare_state : (v : NextState) (s : ℕ) → bare_next v ≡ State s 0 → (u : ℕ) × (v ≡ State s u)
bare_state (State t u) s e = (u, let p : t ≡ s = cc in ap (λ (x : ℕ). State x u) p)
bare_state (Nothing u) s e = absurd (let z : ◌≡◌ {A = ℕ} 0 1 = cc in omega arith)
bare_state (NextSpent u) s e = absurd (let z : ◌≡◌ {A = ℕ} 0 1 = cc in omega arith)
bare_state (NextRefused f) s e = absurd (let z : ◌≡◌ {A = ℕ} 0 1 = cc in omega arith)

bare_nothing : (v : NextState) → bare_next v ≡ Nothing 0 → (u : ℕ) × (v ≡ Nothing u)
bare_nothing (State t u) e = absurd (let z : ◌≡◌ {A = ℕ} 0 1 = cc in omega arith)
bare_nothing (Nothing u) e = (u, refl)
bare_nothing (NextSpent u) e = absurd (let z : ◌≡◌ {A = ℕ} 0 1 = cc in omega arith)
bare_nothing (NextRefused f) e = absurd (let z : ◌≡◌ {A = ℕ} 0 1 = cc in omega arith)

module _ (ws : List ℕ) (rs : List (Rule ℕ)) where
  abbrev Wanted : Choice → Type 0
  Wanted = FinalAnd (length ws) (Preferred ws rs)

  law : (k : Choice) → (T (is_final (length ws) k) × ((u : ℕ) × (preferred_needs ws rs k.taken ≡ Yes u))) ↔ Wanted k
  law k = (
    λ h. (eqb→eq k.decided (length ws) h.0, (yes_law ws rs k.taken).0 h.1),
    λ h. (eq_to_eqb k.decided (length ws) h.0, (yes_law ws rs k.taken).1 h.1),
  )

  needs_answered : (start : ℕ) → NextAnswered (next_needs ws rs start)
  unfolding next_needs
  needs_answered start = first_answered (λ k. k.taken) (choice 0 0) (is_final (length ws)) (preferred_needs ws rs) Wanted (preferred_answered ws rs) law (candidates ws rs start) 0

  pub full_found : NextFound ws rs (place (length ws)) (full_next_needs ws rs)
  unfolding full_next_needs walk_order
  full_found = sets_found ws rs (set_at (length ws)) (place (length ws)) (by_place (length ws)) (full_preferred_needs ws rs) (full_answered ws rs) (full_yes ws rs)

  -- the same state as the full walk's
  pub next_found : NextFound ws rs (place (length ws)) (next_needs ws rs)
  next_found = record {
    answered = needs_answered;
    found = λ t s u e. let f = bare_state (full_next_needs ws rs t) s (sym (next_same_bare ws rs t) ∙ ap bare_next e) in full_found.found t s f.0 f.1;
    none = λ t u e. let f = bare_nothing (full_next_needs ws rs t) (sym (next_same_bare ws rs t) ∙ ap bare_next e) in full_found.none t f.0 f.1;
  }

  module _ (start : ℕ) where
    total : (l : List Choice) (u : ℕ) → TotalUnits (ChoiceUnits ws rs) l u ↔ (u ≡ sum (choice_cost ws rs) l)
    total = total_law (ChoiceUnits ws rs) (choice_cost ws rs) (cost_law ws rs)

    needs_state : (s u : ℕ) → next_needs ws rs start ≡ State s u ↔ FoundState ws rs start s u
    unfolding next_needs
    needs_state s u =
        let r = first_state_lem (λ k. k.taken) (choice 0 0) (is_final (length ws)) (preferred_needs ws rs) Wanted (preferred_answered ws rs) law (candidates ws rs start) 0 s u in
        let f = first_final (length ws) (Preferred ws rs) (candidates ws rs start) s in (
          λ e. let h = r.0 e in (h.0, (f h.0).0 h.1, (total (take (suc h.0) (candidates ws rs start)) u).1 (let k = h.2 in omega arith)),
          λ h. r.1 (h.0, (f h.0).1 h.1, let k = (total (take (suc h.0) (candidates ws rs start)) u).0 h.2 in omega arith),
        )

    needs_nothing : (u : ℕ) → next_needs ws rs start ≡ Nothing u ↔ NoState ws rs start u
    unfolding next_needs
    needs_nothing u =
        let r = first_nothing (λ k. k.taken) (choice 0 0) (is_final (length ws)) (preferred_needs ws rs) Wanted (preferred_answered ws rs) law (candidates ws rs start) 0 u in (
          λ e. let h = r.0 e in (h.0, (total (candidates ws rs start) u).1 (let k = h.1 in omega arith)),
          λ h. r.1 (h.0, let k = (total (candidates ws rs start) u).0 h.1 in omega arith),
        )

    units_needed : NextUnits ws rs start (next_units (next_needs ws rs start))
    units_needed = step (next_needs ws rs start) refl (needs_answered start)
      where
        step : (v : NextState) → next_needs ws rs start ≡ v → NextAnswered v → NextUnits ws rs start (next_units v)
        step (State s u) e a = inl (s, (needs_state s u).0 e)
        step (Nothing u) e a = inr ((needs_nothing u).0 e)
        step (NextSpent u) e a = absurd a
        step (NextRefused f) e a = absurd a

    units_counted : (n : ℕ) → NextUnits ws rs start n → next_units (next_needs ws rs start) ≡ n
    units_counted n (inl h) = ap next_units ((needs_state h.0 n).1 h.1)
    units_counted n (inr h) = ap next_units ((needs_nothing n).1 h)

    earliest : (s u : ℕ) → next_needs ws rs start ≡ State s u → EarliestFrom (Preferred ws rs) (length ws) start s
    earliest s u e =
        let f = next_found.found start s u e in
        record { inside = f.inside; after = f.after; here = f.here; earliest = λ t l g h. f.foremost t l g (((in_places (length ws)).order t s).1 h) }

    pub next_means : (budget : ℕ) → NextMeans ws rs start budget
    unfolding next_verdict
    next_means budget =
        let same = next_same budget (next_needs ws rs start) (needs_answered start) in
        let over = capped_spent budget (next_needs ws rs start) (needs_answered start) in
        record {
          state = λ s u. (λ e. let h = (same (State s u) tt).0 e in ((needs_state s u).0 h.0, h.1), λ h. (same (State s u) tt).1 ((needs_state s u).1 h.0, h.1));
          earliest = λ s u e. earliest s u ((same (State s u) tt).0 e).0;
          nothing = λ u. (λ e. let h = (same (Nothing u) tt).0 e in ((needs_nothing u).0 h.0, h.1), λ h. (same (Nothing u) tt).1 ((needs_nothing u).1 h.0, h.1));
          none_after = λ u e. next_found.none start u ((same (Nothing u) tt).0 e).0;
          spent = λ u. (
            λ e. let h = (over u).0 e in (h.0, (next_units (next_needs ws rs start), units_needed, h.1)),
            λ h. (over u).1 (h.0, let k = units_counted h.1.0 h.1.1 in let l = h.1.2 in omega arith),
          );
          never_refused = never_refused budget (next_needs ws rs start) (needs_answered start);
        }
