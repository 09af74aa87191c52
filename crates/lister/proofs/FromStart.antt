-- The walk over the candidates from a start, for each way through its code, and what it tells as the next state.
use Prim.Native.Nat.{ℕ, ◌+◌, ◌-◌, ◌*◌, ◌%◌, ◌^◌, ◌≤◌, ◌<◌}
use mathlib.Core.Path.{◌≡◌, refl, sym, ap, ap₂, ◌∙◌, subst}
use mathlib.Core.Bool.{Bool, true, false, not, cond, ◌||◌}
use mathlib.Core.List.{List}
use native.Mathlib.Omega.{arith}
use native.Mathlib.Decide.{dec_le}
use lib.Dec.{leb, ltb}
use lib.ListN.{get_or}
use borrow.Author.Tests.{lt-ltb, le-ltb, le-leb, lt-leb}
use Rattle.kinds.specs.Limits.{walk_atoms, budget_limit, class_limit}
use Rattle.kinds.specs.declared.refusals.Refusal.{Refusal}
use Rattle.walks.specs.Walk.{capped, capped_next}
use Rattle.walks.specs.declared.answers.Verdict.{Verdict}
use Rattle.walks.specs.declared.answers.Verdict.TheVariants.{Yes, Broken, Beaten, Spent, Refused}
use Rattle.walks.specs.declared.answers.NextState.{NextState}
use Rattle.walks.specs.declared.answers.NextState.TheVariants.{State, Nothing as NoState, Spent as NextSpent, Refused as NextRefused}
use Rattle.walks.proofs.Searches.{Answered, Walked, walked_answered, units_of as verdict_units, capped_same, capped_spent, never_refused}
use Rattle.masks.proofs.MaskLoops.{shifted}
use Rattle.groups.specs.Groups.{root_group, broken_from, broken_in, place_limit}
use Rattle.groups.specs.Plans.{classes_from, starts_from, care_from, want_from, classes_in, starts_in, care_in, want_in, SameTables, HasTables}
use Rattle.groups.proofs.PlanParts.{part_at, tables_part}
use Rattle.descent.specs.Descent.{Outcome, Found, Nothing, units_of, Asked, visit, descend, found_mark, Told, spent}
use Rattle.descent.specs.Search.{better_set}
use Rattle.descent.specs.Verdicts.{outs_of, ins_of, verdict_of, preferred_m}
use Rattle.descent.proofs.Told.{told_nothing, told_found}
use Rattle.lister.specs.NextMasks.{candidate, from_start, listed, next_outcome, next_of, next_m}

-- a choice before the start

other_way : (a b : ℕ) → leb a b ≡ not (ltb b a)
other_way a b = step (dec_le a b)
  where
    step : Dec (a ≤ b) → leb a b ≡ not (ltb b a)
    step (yes h) = le-leb a b h ∙ sym (ap not (le-ltb b a h))
    step (no h) = let l : b < a = omega arith in lt-leb a b l ∙ sym (ap not (lt-ltb b a l))

pub out_before : (start k s : ℕ) (v : Bool) → k < walk_atoms → v ≡ false → leb (s + (1 * 2 ^ k) % 2 ^ 64) start ≡ not (v || ltb start (s + 2 ^ k))
out_before start k s v h e = ap (λ (x : ℕ). leb (s + x) start) (shifted k (omega arith)) ∙ other_way (s + 2 ^ k) start ∙ ap (λ (x : Bool). not (x || ltb start (s + 2 ^ k))) (sym e)

-- a candidate's units: its verdict's on top

candidate_rises : (v : Verdict) (s u : ℕ) → u ≤ units_of (candidate v s u)
candidate_rises (Yes w) s u = omega arith
candidate_rises (Broken i) s u = omega arith
candidate_rises (Beaten t w) s u = omega arith
candidate_rises (Spent w) s u = omega arith
candidate_rises (Refused f) s u = omega arith

pub ends_rise : (cs ws ss ks : List ℕ) (fixed n s u : ℕ) → u ≤ units_of (candidate (preferred_m cs ws ss ks fixed n s) s u)
ends_rise cs ws ss ks fixed n s u = candidate_rises (preferred_m cs ws ss ks fixed n s) s u

candidate_units : (v : Verdict) (s u : ℕ) → Walked v → units_of (candidate v s u) ≡ u + verdict_units v
candidate_units (Yes w) s u h = refl
candidate_units (Broken i) s u h = absurd h
candidate_units (Beaten t w) s u h = refl
candidate_units (Spent w) s u h = absurd h
candidate_units (Refused f) s u h = absurd h

verdict_walked : (o : Outcome) → Walked (verdict_of o)
verdict_walked (Found s u) = tt
verdict_walked (Nothing u) = tt

pub needs_walked : (cs ws ss ks : List ℕ) (fixed n s : ℕ) → Walked (preferred_m cs ws ss ks fixed n s)
unfolding preferred_m
needs_walked cs ws ss ks fixed n s = verdict_walked (descend (better_set cs ws ss ks (outs_of n fixed s) (ins_of n fixed s) s) n 0 1)

-- a candidate whose unit lies past the budget
pub is_late_lem : (v : Verdict) (s u b f : ℕ) → b < u → u < found_mark → Told b (candidate v s u) f u f
is_late_lem v s u b f l h = spent (omega (arith, candidate_rises v s u)) l (λ m. absurd (omega arith))

-- a candidate of verdict v, which under what is left of the budget is r
module _ (v : Verdict) (walked : Walked v) {u b : ℕ} (l : u ≤ b) (small : b ≤ budget_limit) {r : Verdict} (e : r ≡ capped (b - u) v) where
  same : (x : Verdict) → Answered x → r ≡ x → (v ≡ x) × (verdict_units x ≤ b - u)
  same x a q = (capped_same (b - u) v (walked_answered v walked) x a).0 (sym e ∙ q)

  pub state_units : {w : ℕ} → r ≡ Yes w → u + w ≤ b
  state_units {w} q = let h : w ≤ b - u = (same (Yes w) tt q).1 in omega arith

  pub beaten_units : {t w : ℕ} → r ≡ Beaten t w → u + w ≤ b
  beaten_units {t} {w} q = let h : w ≤ b - u = (same (Beaten t w) tt q).1 in omega arith

  module _ (s : ℕ) where
    told_by : {f k g : ℕ} (x : Verdict) → Answered x → r ≡ x → Told b (candidate x s u) f k g → Told b (candidate v s u) f k g
    told_by {f} {k} {g} x a q t = subst (λ (y : Verdict). Told b (candidate y s u) f k g) (sym (same x a q).0) t

    pub is_state : {f w : ℕ} → r ≡ Yes w → Told b (candidate v s u) f (found_mark + (u + w)) s
    is_state {f} {w} q = told_by (Yes w) tt q (told_found b s (u + w) f (omega arith))

    pub is_broken_lem : {f i : ℕ} → r ≡ Broken i → Told b (candidate v s u) f u f
    is_broken_lem {f} {i} q = absurd (subst Walked (same (Broken i) tt q).0 walked)

    pub is_beaten : {f t w : ℕ} → r ≡ Beaten t w → Told b (candidate v s u) f (u + w) f
    is_beaten {f} {t} {w} q = told_by (Beaten t w) tt q (told_nothing b (u + w) f (omega (arith, beaten_units q)))

    pub is_spent : {f w : ℕ} → r ≡ Spent w → Told b (candidate v s u) f (b + 1) f
    is_spent {f} {w} q = let h = ((capped_spent (b - u) v (walked_answered v walked) w).0 (sym e ∙ q)).1 in spent (omega (arith, candidate_units v s u walked)) (omega arith) (λ m. absurd (omega arith))

    pub is_refused : {f : ℕ} {x : Refusal} → r ≡ Refused x → Told b (candidate v s u) f (b + 1) f
    is_refused {f} {x} q = absurd (never_refused (b - u) v (walked_answered v walked) x (sym e ∙ q))

-- a plan with the same tables lists the same
module _ (p q : List ℕ) (e : SameTables q p) where
  same_listed : (fixed n start : ℕ) → listed q fixed n start ≡ listed p fixed n start
  same_listed fixed n start j = from_start
      (tables_part care_from place_limit q p (omega arith) e j)
      (tables_part want_from place_limit q p (omega arith) e j)
      (tables_part starts_from (root_group + 2) q p (omega arith) e j)
      (tables_part classes_from class_limit q p (omega arith) e j)
      fixed n start

  pub told_listed : (fixed n start k : ℕ) (v : Bool) (x u : ℕ) {b f r g : ℕ} → Told b (visit (listed q fixed n start) k v (λ y w. descend (listed q fixed n start) k y w) x u) f r g → Told b (visit (listed p fixed n start) k v (λ y w. descend (listed p fixed n start) k y w) x u) f r g
  told_listed fixed n start k v x u {b} {f} {r} {g} told = subst (λ (t : Asked). Told b (visit t k v (λ y w. descend t k y w) x u) f r g) (same_listed fixed n start) told

  pub next_same : (fixed n start b : ℕ) → next_m (care_in q) (want_in q) (starts_in q) (classes_in q) fixed n start b ≡ next_m (care_in p) (want_in p) (starts_in p) (classes_in p) fixed n start b
  next_same fixed n start b j = next_m
      (tables_part care_from place_limit q p (omega arith) e j)
      (tables_part want_from place_limit q p (omega arith) e j)
      (tables_part starts_from (root_group + 2) q p (omega arith) e j)
      (tables_part classes_from class_limit q p (omega arith) e j)
      fixed n start b

-- the group of the rules without atoms, read from the plan
module _ (p : List ℕ) where
  root_at : (i : ℕ) → i ≤ 1 → get_or p (starts_from + root_group + i) 0 ≡ get_or (starts_in p) (root_group + i) 0
  root_at i h = let z : starts_from + root_group + i ≡ starts_from + (root_group + i) = omega arith in ap (λ (j : ℕ). get_or p j 0) z ∙ sym (part_at starts_from (root_group + 2) p (root_group + i) (omega arith))

  pub root_fits : HasTables p → (i : ℕ) → i ≤ 1 → get_or p (starts_from + root_group + i) 0 ≤ place_limit
  root_fits has i h = omega (arith, root_at i h, has.bounded (root_group + i))

  pub root_even : HasTables p → (i : ℕ) → i ≤ 1 → get_or p (starts_from + root_group + i) 0 % 2 ≡ 0
  root_even has i h = ap (λ (x : ℕ). x % 2) (root_at i h) ∙ has.paired (root_group + i)

  pub root_read : {t : Bool} → t ≡ broken_from (care_in p) (want_in p) 0 (get_or p (starts_from + root_group) 0) (get_or p (starts_from + root_group + 1) 0) → t ≡ broken_from (care_in p) (want_in p) 0 (get_or (starts_in p) root_group 0) (get_or (starts_in p) (root_group + 1) 0)
  root_read e = e ∙ ap₂ (λ (x y : ℕ). broken_from (care_in p) (want_in p) 0 x y) (root_at 0 (omega arith)) (root_at 1 (omega arith))

-- the empty choice
module _ (cs ws ss ks : List ℕ) (fixed n start b f : ℕ) (few : n ≤ walk_atoms) where
  abbrev shape : Bool → Bool → Outcome
  shape p q = cond p (Nothing 0) (cond q (Nothing 1) (descend (from_start cs ws ss ks fixed n start) n 0 1))

  abbrev closed : Bool
  closed = broken_in cs ws ss root_group 0

  pub all_before : (1 * 2 ^ n) % 2 ^ 64 ≤ start → Told b (next_outcome cs ws ss ks fixed n start) f 0 f
  unfolding next_outcome
  all_before h = let l : 2 ^ n ≤ start = omega (arith, shifted n few) in subst (λ (p : Bool). Told b (shape p closed) f 0 f) (sym (le-leb (2 ^ n) start l)) (told_nothing b 0 f (omega arith))

  module _ (h : start < (1 * 2 ^ n) % 2 ^ 64) where
    not_before : {r g : ℕ} → Told b (shape false closed) f r g → Told b (next_outcome cs ws ss ks fixed n start) f r g
    unfolding next_outcome
    not_before {r} {g} t = let l : start < 2 ^ n = omega (arith, shifted n few) in subst (λ (p : Bool). Told b (shape p closed) f r g) (sym (lt-leb (2 ^ n) start l)) t

    module _ {t : Bool} (e : t ≡ broken_from cs ws 0 (get_or ss root_group 0) (get_or ss (root_group + 1) 0)) where
      pub empty_closed : t ≡ true → Told b (next_outcome cs ws ss ks fixed n start) f 1 f
      unfolding broken_in
      empty_closed c = not_before (subst (λ (q : Bool). Told b (shape false q) f 1 f) (sym c ∙ e) (told_nothing b 1 f (omega arith)))

      pub empty_open : {r g : ℕ} → t ≡ false → Told b (descend (from_start cs ws ss ks fixed n start) n 0 1) f r g → Told b (next_outcome cs ws ss ks fixed n start) f r g
      unfolding broken_in
      empty_open {r} {g} c w = not_before (subst (λ (q : Bool). Told b (shape false q) f r g) (sym c ∙ e) w)

-- a verdict by the walk as the next state
abbrev as_next : Verdict → NextState
as_next (Yes u) = NoState u
as_next (Broken i) = NoState 0
as_next (Beaten s u) = State s u
as_next (Spent u) = NextSpent u
as_next (Refused f) = NextRefused f

same_capped : (b : ℕ) (o : Outcome) → as_next (capped b (verdict_of o)) ≡ capped_next b (next_of o)
unfolding capped capped_next
same_capped b (Found s u) = step (leb u b)
  where
    step : (t : Bool) → as_next (cond t (Beaten s u) (Spent b)) ≡ cond t (State s u) (NextSpent b)
    step true = refl
    step false = refl
same_capped b (Nothing u) = step (leb u b)
  where
    step : (t : Bool) → as_next (cond t (Yes u) (Spent b)) ≡ cond t (NoState u) (NextSpent b)
    step true = refl
    step false = refl

pub next_told : (cs ws ss ks : List ℕ) (fixed n start b : ℕ) {v : Verdict} → v ≡ capped b (verdict_of (next_outcome cs ws ss ks fixed n start)) → as_next v ≡ next_m cs ws ss ks fixed n start b
unfolding next_m
next_told cs ws ss ks fixed n start b e = ap as_next e ∙ same_capped b (next_outcome cs ws ss ks fixed n start)
