-- What the answer of a walk means, whatever is tried and whatever is better, and what a budget makes of it.
use Prim.Native.Nat.{ℕ, zero, suc, ◌+◌, ◌≤◌, ◌<◌}
use mathlib.Core.Path.{◌≡◌, refl, sym, ap, ◌∙◌, subst}
use mathlib.Core.Logic.{◌↔◌}
use mathlib.Core.Bool.{Bool, true, false, cond}
use mathlib.Core.List.{List, [], ◌∷◌}
use native.Mathlib.Omega.{arith}
use native.Mathlib.Decide.{dec_le}
use lib.Dec.{T, leb}
use lib.ListN.{length}
use borrow.Author.Tests.{le-leb, lt-leb}
use Rattle.kinds.specs.declared.refusals.Refusal.{Refusal}
use Rattle.rules.specs.Lists.{All}
use Rattle.walks.specs.Walk.{search, capped}
use Rattle.walks.specs.Meanings.{First}
use Rattle.walks.specs.declared.answers.Verdict.{Verdict}
use Rattle.walks.specs.declared.answers.Verdict.TheVariants.{Yes, Broken, Beaten, Spent, Refused}

abbrev pub units_of : Verdict → ℕ
units_of (Yes u) = u
units_of (Broken i) = 0
units_of (Beaten s u) = u
units_of (Spent u) = u
units_of (Refused f) = 0

-- neither spent nor refused
abbrev pub Answered : Verdict → Type 0
Answered (Yes u) = Unit {0}
Answered (Broken i) = Unit {0}
Answered (Beaten s u) = Unit {0}
Answered (Spent u) = ⊥
Answered (Refused f) = ⊥

-- what a walk answers: yes or a better set
abbrev pub Walked : Verdict → Type 0
Walked (Yes u) = Unit {0}
Walked (Broken i) = ⊥
Walked (Beaten s u) = Unit {0}
Walked (Spent u) = ⊥
Walked (Refused f) = ⊥

pub walked_answered : (v : Verdict) → Walked v → Answered v
walked_answered (Yes u) h = tt
walked_answered (Broken i) h = absurd h
walked_answered (Beaten s u) h = tt
walked_answered (Spent u) h = absurd h
walked_answered (Refused f) h = absurd h

pub yes_beaten : {A : Type 0} {u s v : ℕ} → Yes u ≡ Beaten s v → A
yes_beaten e = absurd (let z : ◌≡◌ {A = ℕ} 0 1 = cc in omega arith)

pub yes_broken : {A : Type 0} {u i : ℕ} → Yes u ≡ Broken i → A
yes_broken e = absurd (let z : ◌≡◌ {A = ℕ} 0 1 = cc in omega arith)

pub broken_beaten : {A : Type 0} {u s v : ℕ} → Broken u ≡ Beaten s v → A
broken_beaten e = absurd (let z : ◌≡◌ {A = ℕ} 0 1 = cc in omega arith)

module _ {A : Type 0} (set : A → ℕ) (none : A) (better : A → Bool) (P : A → Type 0) (law : (x : A) → T (better x) ↔ P x) where
  pub search_walked : (l : List A) (u : ℕ) → Walked (search set better l u)
  unfolding search
  search_walked [] u = tt
  search_walked (x ∷ l) u = step (better x) (search_walked l (suc u))
    where
      step : (b : Bool) → Walked (search set better l (suc u)) → Walked (cond b (Beaten (set x) (suc u)) (search set better l (suc u)))
      step true h = tt
      step false h = h

  pub search_yes : (l : List A) (u v : ℕ) → search set better l u ≡ Yes v ↔ (All (λ x. P x → ⊥) l × (v ≡ u + length l))
  unfolding search
  search_yes [] u v = (λ e. (tt, let q : u ≡ v = cc in omega arith), λ h. ap Yes (let q = h.1 in omega arith))
  search_yes (x ∷ l) u v = step (better x) (law x) (search_yes l (suc u) v)
    where
      step : (b : Bool) → T b ↔ P x → search set better l (suc u) ≡ Yes v ↔ (All (λ x. P x → ⊥) l × (v ≡ suc u + length l))
          → cond b (Beaten (set x) (suc u)) (search set better l (suc u)) ≡ Yes v ↔ (((P x → ⊥) × All (λ x. P x → ⊥) l) × (v ≡ u + suc (length l)))
      step true q r = (λ e. yes_beaten (sym e), λ h. absurd (h.0.0 (q.0 tt)))
      step false q r = (
        λ e. let h = r.0 e in ((q.1, h.0), let k = h.1 in omega arith),
        λ h. r.1 (h.0.1, let k = h.1 in omega arith),
      )

  -- the first entry that is P has the set s
  abbrev FirstOf : List A → ℕ → ℕ → Type 0
  FirstOf l s k = (x : A) × (set x ≡ s) × First none P l x k

  pub search_beaten : (l : List A) (u s v : ℕ) → search set better l u ≡ Beaten s v ↔ ((k : ℕ) × (v ≡ u + suc k) × FirstOf l s k)
  unfolding search
  search_beaten [] u s v = (λ e. yes_beaten e, λ h. absurd (let i = h.2.2.inside in omega arith))
  search_beaten (x ∷ l) u s v = step (better x) (law x) (search_beaten l (suc u) s v)
    where
      step : (b : Bool) → T b ↔ P x → search set better l (suc u) ≡ Beaten s v ↔ ((k : ℕ) × (v ≡ suc u + suc k) × FirstOf l s k)
          → cond b (Beaten (set x) (suc u)) (search set better l (suc u)) ≡ Beaten s v ↔ ((k : ℕ) × (v ≡ u + suc k) × FirstOf (x ∷ l) s k)
      step true q r = (
        λ e.
            let p : set x ≡ s = cc in
            let w : suc u ≡ v = cc in
            (0, omega arith, (x, p, record { inside = omega arith; place = refl; here = q.0 tt; earlier = tt })),
        λ h. back h.0 h.1 h.2.0 h.2.1 h.2.2,
      )
        where
          back : (k : ℕ) → v ≡ u + suc k → (y : A) → set y ≡ s → First none P (x ∷ l) y k → Beaten (set x) (suc u) ≡ Beaten s v
          back zero e y p f = let i : set x ≡ s = ap set f.place ∙ p in let w : suc u ≡ v = omega arith in cc
          back (suc k) e y p f = absurd (f.earlier.0 (q.0 tt))
      step false q r = (
        λ e.
            let h = r.0 e in
            let f = h.2.2 in
            (suc h.0, (let w = h.1 in omega arith), (h.2.0, h.2.1, record { inside = let i = f.inside in omega arith; place = f.place; here = f.here; earlier = (q.1, f.earlier) })),
        λ h. back h.0 h.1 h.2.0 h.2.1 h.2.2,
      )
        where
          back : (k : ℕ) → v ≡ u + suc k → (y : A) → set y ≡ s → First none P (x ∷ l) y k → search set better l (suc u) ≡ Beaten s v
          back zero e y p f = absurd (q.1 (subst P (sym f.place) f.here))
          back (suc k) e y p f = r.1 (k, omega arith, (y, p, record { inside = let i = f.inside in omega arith; place = f.place; here = f.here; earlier = f.earlier.1 }))

-- the budget

enough : (b : ℕ) (u : ℕ) (v w : Verdict) → u ≤ b → cond (leb u b) v w ≡ v
enough b u v w h = ap (λ (p : Bool). cond p v w) (le-leb u b h)

short : (b : ℕ) (u : ℕ) (v w : Verdict) → b < u → cond (leb u b) v w ≡ w
short b u v w h = ap (λ (p : Bool). cond p v w) (lt-leb u b h)

pub capped_within : (b : ℕ) (v : Verdict) → Answered v → units_of v ≤ b → capped b v ≡ v
unfolding capped
capped_within b (Yes u) a h = enough b u (Yes u) (Spent b) h
capped_within b (Broken i) a h = refl
capped_within b (Beaten s u) a h = enough b u (Beaten s u) (Spent b) h
capped_within b (Spent u) a h = refl
capped_within b (Refused f) a h = refl

pub capped_over : (b : ℕ) (v : Verdict) → Answered v → b < units_of v → capped b v ≡ Spent b
unfolding capped
capped_over b (Yes u) a h = short b u (Yes u) (Spent b) h
capped_over b (Broken i) a h = absurd (omega arith)
capped_over b (Beaten s u) a h = short b u (Beaten s u) (Spent b) h
capped_over b (Spent u) a h = absurd a
capped_over b (Refused f) a h = absurd a

-- an answer under a budget, for both kinds of answer
module _ {A : Type 0} (units : A → ℕ) (Answer : A → Type 0) (spent : ℕ → A) (cap : ℕ → A → A)
    (inside : (b : ℕ) (v : A) → Answer v → units v ≤ b → cap b v ≡ v) (over : (b : ℕ) (v : A) → Answer v → b < units v → cap b v ≡ spent b)
    (none : (u : ℕ) → Answer (spent u) → ⊥) (inj : (u w : ℕ) → spent u ≡ spent w → u ≡ w) (b : ℕ) (v : A) (a : Answer v) where
  -- an answer within the budget is the one without a budget
  pub under_budget : (r : A) → Answer r → cap b v ≡ r ↔ ((v ≡ r) × (units r ≤ b))
  under_budget r q = step (dec_le (units v) b)
    where
      step : Dec (units v ≤ b) → cap b v ≡ r ↔ ((v ≡ r) × (units r ≤ b))
      step (yes h) = (
        λ e. let p : v ≡ r = sym (inside b v a h) ∙ e in (p, subst (λ (x : A). units x ≤ b) p h),
        λ k. inside b v a h ∙ k.0,
      )
      step (no h) = (
        λ e. absurd (none b (subst Answer (sym (sym (over b v a (omega arith)) ∙ e)) q)),
        λ k. absurd (let l : units v ≤ b = subst (λ (x : A). units x ≤ b) (sym k.0) k.1 in omega arith),
      )

  pub over_budget : (u : ℕ) → cap b v ≡ spent u ↔ ((u ≡ b) × (b < units v))
  over_budget u = step (dec_le (units v) b)
    where
      step : Dec (units v ≤ b) → cap b v ≡ spent u ↔ ((u ≡ b) × (b < units v))
      step (yes h) = (
        λ e. absurd (none u (subst Answer (sym (inside b v a h) ∙ e) a)),
        λ k. absurd (let l = k.1 in omega arith),
      )
      step (no h) = (
        λ e. (sym (inj b u (sym (over b v a (omega arith)) ∙ e)), omega arith),
        λ k. over b v a (omega arith) ∙ ap spent (sym k.0),
      )

  pub nothing_else : (r : A) → (Answer r → ⊥) → (spent b ≡ r → ⊥) → cap b v ≡ r → ⊥
  nothing_else r q n e = step (dec_le (units v) b)
    where
      step : Dec (units v ≤ b) → ⊥
      step (yes h) = q (subst Answer (sym (inside b v a h) ∙ e) a)
      step (no h) = n (sym (over b v a (omega arith)) ∙ e)

spent_inj : (u w : ℕ) → Spent u ≡ Spent w → u ≡ w
spent_inj u w e = cc

module _ (b : ℕ) (v : Verdict) (a : Answered v) where
  pub capped_same : (r : Verdict) → Answered r → capped b v ≡ r ↔ ((v ≡ r) × (units_of r ≤ b))
  capped_same = under_budget units_of Answered Spent capped capped_within capped_over (λ u h. h) spent_inj b v a

  pub capped_spent : (u : ℕ) → capped b v ≡ Spent u ↔ ((u ≡ b) × (b < units_of v))
  capped_spent = over_budget units_of Answered Spent capped capped_within capped_over (λ u h. h) spent_inj b v a

  pub never_refused : (f : Refusal) → capped b v ≡ Refused f → ⊥
  never_refused f = nothing_else units_of Answered Spent capped capped_within capped_over (λ u h. h) spent_inj b v a (Refused f) (λ h. h) (λ e. let z : ◌≡◌ {A = ℕ} 0 1 = cc in omega arith)
