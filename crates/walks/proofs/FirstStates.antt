-- What the first state of a walk means, whatever is walked and whatever the verdicts, and what a budget makes of it.
use Prim.Native.Nat.{ℕ, zero, suc, ◌+◌, ◌≤◌, ◌<◌}
use mathlib.Core.Path.{◌≡◌, refl, sym, ap, ◌∙◌, subst}
use mathlib.Core.Logic.{◌↔◌}
use mathlib.Core.Bool.{Bool, true, false, cond}
use mathlib.Core.List.{List, [], ◌∷◌}
use native.Mathlib.Omega.{arith}
use lib.Dec.{T}
use lib.ListN.{take}
use borrow.Author.Tests.{le-leb, lt-leb}
use Rattle.kinds.specs.declared.refusals.Refusal.{Refusal}
use Rattle.rules.specs.Lists.{All, sum}
use Rattle.rules.proofs.Booleans.{T_of}
use Rattle.walks.specs.Walk.{after, first_state, capped_next}
use Rattle.walks.specs.Meanings.{First}
use Rattle.walks.specs.declared.answers.Verdict.{Verdict}
use Rattle.walks.specs.declared.answers.Verdict.TheVariants.{Yes, Broken, Beaten, Spent, Refused}
use Rattle.walks.specs.declared.answers.NextState.{NextState}
use Rattle.walks.specs.declared.answers.NextState.TheVariants.{State, Nothing, Spent as NextSpent, Refused as NextRefused}
use Rattle.walks.proofs.Searches.{Answered, units_of, under_budget, over_budget, nothing_else}

abbrev pub next_units : NextState → ℕ
next_units (State s u) = u
next_units (Nothing u) = u
next_units (NextSpent u) = u
next_units (NextRefused f) = 0

abbrev pub NextAnswered : NextState → Type 0
NextAnswered (State s u) = Unit {0}
NextAnswered (Nothing u) = Unit {0}
NextAnswered (NextSpent u) = ⊥
NextAnswered (NextRefused f) = ⊥

state_nothing : {A : Type 0} {s u v : ℕ} → State s u ≡ Nothing v → A
state_nothing e = absurd (let z : ◌≡◌ {A = ℕ} 0 1 = cc in omega arith)

-- the budget

pub next_within : (b : ℕ) (v : NextState) → NextAnswered v → next_units v ≤ b → capped_next b v ≡ v
unfolding capped_next
next_within b (State s u) a h = ap (λ (p : Bool). cond p (State s u) (NextSpent b)) (le-leb u b h)
next_within b (Nothing u) a h = ap (λ (p : Bool). cond p (Nothing u) (NextSpent b)) (le-leb u b h)
next_within b (NextSpent u) a h = refl
next_within b (NextRefused f) a h = refl

pub next_over_lem : (b : ℕ) (v : NextState) → NextAnswered v → b < next_units v → capped_next b v ≡ NextSpent b
unfolding capped_next
next_over_lem b (State s u) a h = ap (λ (p : Bool). cond p (State s u) (NextSpent b)) (lt-leb u b h)
next_over_lem b (Nothing u) a h = ap (λ (p : Bool). cond p (Nothing u) (NextSpent b)) (lt-leb u b h)
next_over_lem b (NextSpent u) a h = absurd a
next_over_lem b (NextRefused f) a h = absurd a

spent_inj : (u w : ℕ) → NextSpent u ≡ NextSpent w → u ≡ w
spent_inj u w e = cc

module _ (b : ℕ) (v : NextState) (a : NextAnswered v) where
  pub next_same : (r : NextState) → NextAnswered r → capped_next b v ≡ r ↔ ((v ≡ r) × (next_units r ≤ b))
  next_same = under_budget next_units NextAnswered NextSpent capped_next next_within next_over_lem (λ u h. h) spent_inj b v a

  pub capped_spent : (u : ℕ) → capped_next b v ≡ NextSpent u ↔ ((u ≡ b) × (b < next_units v))
  capped_spent = over_budget next_units NextAnswered NextSpent capped_next next_within next_over_lem (λ u h. h) spent_inj b v a

  pub never_refused : (f : Refusal) → capped_next b v ≡ NextRefused f → ⊥
  never_refused f = nothing_else next_units NextAnswered NextSpent capped_next next_within next_over_lem (λ u h. h) spent_inj b v a (NextRefused f) (λ h. h) (λ e. let z : ◌≡◌ {A = ℕ} 0 1 = cc in omega arith)

-- entries one after another, the final ones with a verdict

-- a verdict that is passed over
abbrev Other : Verdict → Type 0
Other (Yes u) = ⊥
Other (Broken i) = Unit {0}
Other (Beaten s u) = Unit {0}
Other (Spent u) = ⊥
Other (Refused f) = ⊥

data Case (v : Verdict) : Type 0 where
  is_yes_lem : (u : ℕ) → v ≡ Yes u → Case v
  is_other_lem : Other v → Case v

cases : (v : Verdict) → Answered v → Case v
cases (Yes u) a = is_yes_lem u refl
cases (Broken i) a = is_other_lem tt
cases (Beaten s u) a = is_other_lem tt
cases (Spent u) a = absurd a
cases (Refused f) a = absurd a

passed : (v : Verdict) (s u : ℕ) (rest : ℕ → NextState) → Other v → after v s u rest ≡ rest (u + suc (units_of v))
passed (Yes w) s u rest o = absurd o
passed (Broken i) s u rest o = ap rest (omega arith)
passed (Beaten t w) s u rest o = ap rest (omega arith)
passed (Spent w) s u rest o = absurd o
passed (Refused f) s u rest o = absurd o

module _ {A : Type 0} (set : A → ℕ) (none : A) (final : A → Bool) (verdict : ℕ → Verdict) (P : A → Type 0)
    (answered : (s : ℕ) → Answered (verdict s)) (law : (x : A) → (T (final x) × ((u : ℕ) × (verdict (set x) ≡ Yes u))) ↔ P x) where
  abbrev pub cost : A → ℕ
  cost x = cond (final x) (suc (units_of (verdict (set x)))) 1

  abbrev entered : A → ℕ → (ℕ → NextState) → NextState
  entered x u rest = cond (final x) (after (verdict (set x)) (set x) u rest) (rest (suc u))

  -- an entry is a state, or is passed over
  data Entry (x : A) : Type 0 where
    state : (w : ℕ) → P x → cost x ≡ suc w → ((u : ℕ) (rest : ℕ → NextState) → entered x u rest ≡ State (set x) (suc u + w)) → Entry x
    other : (P x → ⊥) → ((u : ℕ) (rest : ℕ → NextState) → entered x u rest ≡ rest (u + cost x)) → Entry x

  entry : (x : A) → Entry x
  entry x = step (final x) refl (cases (verdict (set x)) (answered (set x)))
    where
      -- where the test of the entry is known
      shown : (b : Bool) → final x ≡ b → (u : ℕ) (rest : ℕ → NextState) → entered x u rest ≡ cond b (after (verdict (set x)) (set x) u rest) (rest (suc u))
      shown b q u rest = ap (λ (b : Bool). cond b (after (verdict (set x)) (set x) u rest) (rest (suc u))) q

      costs : (b : Bool) → final x ≡ b → cost x ≡ cond b (suc (units_of (verdict (set x)))) 1
      costs b q = ap (λ (b : Bool). cond b (suc (units_of (verdict (set x)))) 1) q

      step : (b : Bool) → final x ≡ b → Case (verdict (set x)) → Entry x
      step true q (is_yes_lem w e) = state w ((law x).0 (T_of (sym q) tt, (w, e))) (costs true q ∙ ap (λ (v : Verdict). suc (units_of v)) e)
          (λ u rest. shown true q u rest ∙ ap (λ (v : Verdict). after v (set x) u rest) e)
      step true q (is_other_lem o) = other (λ p. subst Other ((law x).1 p).1.1 o)
          (λ u rest. shown true q u rest ∙ passed (verdict (set x)) (set x) u rest o ∙ ap (λ (c : ℕ). rest (u + c)) (sym (costs true q)))
      step false q c = other (λ p. T_of q ((law x).1 p).0)
          (λ u rest. shown false q u rest ∙ ap rest (let z : suc u ≡ u + 1 = omega arith in z) ∙ ap (λ (c : ℕ). rest (u + c)) (sym (costs false q)))

  abbrev firsts : List A → ℕ → NextState
  firsts l u = first_state set final verdict l u

  pub first_answered : (l : List A) (u : ℕ) → NextAnswered (first_state set final verdict l u)
  unfolding first_state
  first_answered [] u = tt
  first_answered (x ∷ l) u = step (entry x) (first_answered l (u + cost x))
    where
      step : Entry x → NextAnswered (firsts l (u + cost x)) → NextAnswered (entered x u (λ v. firsts l v))
      step (state w p c e) h = subst NextAnswered (sym (e u (λ v. firsts l v))) tt
      step (other p e) h = subst NextAnswered (sym (e u (λ v. firsts l v))) h

  pub first_nothing : (l : List A) (u v : ℕ) → first_state set final verdict l u ≡ Nothing v ↔ (All (λ x. P x → ⊥) l × (v ≡ u + sum cost l))
  unfolding first_state
  first_nothing [] u v = (λ e. (tt, let q : u ≡ v = cc in omega arith), λ h. ap Nothing (let q = h.1 in omega arith))
  first_nothing (x ∷ l) u v = step (entry x) (first_nothing l (u + cost x) v)
    where
      step : Entry x → firsts l (u + cost x) ≡ Nothing v ↔ (All (λ x. P x → ⊥) l × (v ≡ u + cost x + sum cost l))
          → entered x u (λ v. firsts l v) ≡ Nothing v ↔ (((P x → ⊥) × All (λ x. P x → ⊥) l) × (v ≡ u + (cost x + sum cost l)))
      step (state w p c e) r = (
        λ q. state_nothing (sym (e u (λ v. firsts l v)) ∙ q),
        λ h. absurd (h.0.0 p),
      )
      step (other p e) r = (
        λ q. let h = r.0 (sym (e u (λ v. firsts l v)) ∙ q) in ((p, h.0), let k = h.1 in omega arith),
        λ h. e u (λ v. firsts l v) ∙ r.1 (h.0.1, let k = h.1 in omega arith),
      )

  -- the first entry that is P has the set s
  abbrev FirstOf : List A → ℕ → ℕ → Type 0
  FirstOf l s k = (x : A) × (set x ≡ s) × First none P l x k

  pub first_state_lem : (l : List A) (u s v : ℕ) → first_state set final verdict l u ≡ State s v ↔ ((k : ℕ) × ((x : A) × (set x ≡ s) × First none P l x k) × (v ≡ u + sum cost (take (suc k) l)))
  unfolding first_state
  first_state_lem [] u s v = (λ e. state_nothing (sym e), λ h. absurd (let i = h.1.2.inside in omega arith))
  first_state_lem (x ∷ l) u s v = step (entry x) (first_state_lem l (u + cost x) s v)
    where
      step : Entry x → firsts l (u + cost x) ≡ State s v ↔ ((k : ℕ) × FirstOf l s k × (v ≡ u + cost x + sum cost (take (suc k) l)))
          → entered x u (λ v. firsts l v) ≡ State s v ↔ ((k : ℕ) × FirstOf (x ∷ l) s k × (v ≡ u + sum cost (take (suc k) (x ∷ l))))
      step (state w p c e) r = (
        λ q.
            let z : State (set x) (suc u + w) ≡ State s v = sym (e u (λ v. firsts l v)) ∙ q in
            let i : set x ≡ s = cc in
            let j : suc u + w ≡ v = cc in
            (0, (x, i, record { inside = omega arith; place = refl; here = p; earlier = tt }), omega arith),
        λ h. back h.0 h.1.0 h.1.1 h.1.2 h.2,
      )
        where
          back : (k : ℕ) (y : A) → set y ≡ s → First none P (x ∷ l) y k → v ≡ u + sum cost (take (suc k) (x ∷ l)) → entered x u (λ v. firsts l v) ≡ State s v
          back zero y i f j =
              let z : set x ≡ s = ap set f.place ∙ i in
              let d : suc u + w ≡ v = omega arith in
              e u (λ v. firsts l v) ∙ λ t. State (z t) (d t)
          back (suc k) y i f j = absurd (f.earlier.0 p)
      step (other p e) r = (
        λ q.
            let h = r.0 (sym (e u (λ v. firsts l v)) ∙ q) in
            let f = h.1.2 in
            (suc h.0, (h.1.0, h.1.1, record { inside = let i = f.inside in omega arith; place = f.place; here = f.here; earlier = (p, f.earlier) }), let j = h.2 in omega arith),
        λ h. e u (λ v. firsts l v) ∙ back h.0 h.1.0 h.1.1 h.1.2 h.2,
      )
        where
          back : (k : ℕ) (y : A) → set y ≡ s → First none P (x ∷ l) y k → v ≡ u + sum cost (take (suc k) (x ∷ l)) → firsts l (u + cost x) ≡ State s v
          back zero y i f j = absurd (p (subst P (sym f.place) f.here))
          back (suc k) y i f j = r.1 (k, (y, i, record { inside = let i = f.inside in omega arith; place = f.place; here = f.here; earlier = f.earlier.1 }), omega arith)
