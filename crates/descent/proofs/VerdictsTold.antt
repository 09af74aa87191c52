-- What a search tells as a verdict under its budget.
use Prim.Native.Nat.{ℕ, ◌+◌, ◌-◌, ◌*◌, ◌%◌, ◌^◌, ◌≤◌, ◌<◌}
use mathlib.Core.Path.{◌≡◌, refl, sym, ap, ◌∙◌}
use mathlib.Core.List.{List, ◌∷◌}
use native.Mathlib.Decide.{dec_lt, dec_le}
use native.Mathlib.Omega.{arith}
use lib.Bits.{bit_and, bit_xor}
use lib.ListN.{replicate}
use borrow.Author.Tests.{le-leb, lt-leb}
use Rattle.kinds.specs.Limits.{walk_atoms, budget_limit, class_limit}
use Rattle.walks.specs.Walk.{capped}
use Rattle.walks.specs.declared.answers.Verdict.{Verdict}
use Rattle.walks.specs.declared.answers.Verdict.TheVariants.{Yes, Beaten, Spent}
use Rattle.walks.proofs.Searches.{Answered, units_of as verdict_units, capped_within, capped_over}
use Rattle.masks.proofs.MaskLoops.{shifted}
use Rattle.descent.specs.Descent.{Outcome, Found, Nothing, units_of, descend, found_mark, Told, found, nothing, spent}
use Rattle.descent.specs.Search.{better_set}
use Rattle.descent.specs.Verdicts.{all_of, outs_of, ins_of, verdict_of, past_budget, preferred_m, stable_of, one_class, stable_m}

-- a number past the budget
module _ (b r g : ℕ) where
  pub past_low : r < found_mark → Spent b ≡ past_budget b r g
  unfolding past_budget
  past_low h = rw (lt-leb found_mark r h)

  module _ (l : found_mark ≤ r) where
    pub past_late : b < r - found_mark → Spent b ≡ past_budget b r g
    unfolding past_budget
    past_late h = rw (le-leb found_mark r l, lt-leb (r - found_mark) b h)

    pub past_found : r - found_mark ≤ b → Beaten g (r - found_mark) ≡ past_budget b r g
    unfolding past_budget
    past_found h = rw (le-leb found_mark r l, le-leb (r - found_mark) b h)

  past_spent : (found_mark ≤ r → found_mark + b < r) → Spent b ≡ past_budget b r g
  past_spent beyond = step (dec_lt r found_mark)
    where
      step : Dec (r < found_mark) → Spent b ≡ past_budget b r g
      step (yes h) = past_low h
      step (no h) = let l : found_mark ≤ r = omega arith in past_late l (omega (arith, beyond l))

  past_beaten : (s u : ℕ) → r ≡ found_mark + u → g ≡ s → u ≤ b → past_budget b r g ≡ Beaten s u
  past_beaten s u i j h = let z : r - found_mark ≡ u = omega arith in sym (past_found (omega arith) (omega arith)) ∙ (λ t. Beaten (j t) (z t))

-- the verdict by an outcome of which the units of a search without a find may count for less
module _ (verdict : Outcome → Verdict) (answered : (o : Outcome) → Answered (verdict o)) (b : ℕ) where
  within : (o : Outcome) → verdict_units (verdict o) ≤ b → verdict o ≡ capped b (verdict o)
  within o h = sym (capped_within b (verdict o) (answered o) h)

  beyond : (o : Outcome) → b < verdict_units (verdict o) → Spent b ≡ capped b (verdict o)
  beyond o h = sym (capped_over b (verdict o) (answered o) h)

preferred_answers : (o : Outcome) → Answered (verdict_of o)
preferred_answers (Found s u) = tt
preferred_answers (Nothing u) = tt

stable_answers : (o : Outcome) → Answered (stable_of o)
stable_answers (Found s u) = tt
stable_answers (Nothing u) = tt

same_units : (o : Outcome) → verdict_units (verdict_of o) ≡ units_of o
same_units (Found s u) = refl
same_units (Nothing u) = refl

module _ {b : ℕ} (o : Outcome) {f r g : ℕ} (told : Told b o f r g) (small : b ≤ budget_limit) where
  pub told_yes : r ≤ b → Yes r ≡ capped b (verdict_of o)
  told_yes l = step told
    where
      step : Told b o f r g → Yes r ≡ capped b (verdict_of o)
      step (found s u p q i j) = absurd (omega arith)
      step (nothing u p q i j) = ap Yes i ∙ within verdict_of preferred_answers b (Nothing u) q ∙ ap (λ (x : Outcome). capped b (verdict_of x)) (sym p)
      step (spent p i j) = absurd (omega arith)

  pub told_past : b < r → past_budget b r g ≡ capped b (verdict_of o)
  told_past l = step told
    where
      step : Told b o f r g → past_budget b r g ≡ capped b (verdict_of o)
      step (found s u p q i j) = past_beaten b r g s u i j q ∙ within verdict_of preferred_answers b (Found s u) q ∙ ap (λ (x : Outcome). capped b (verdict_of x)) (sym p)
      step (nothing u p q i j) = absurd (omega arith)
      step (spent p i j) = sym (past_spent b r g j) ∙ beyond verdict_of preferred_answers b o (omega (arith, same_units o))

-- with one unit more for the final choice that is not counted
module _ {b : ℕ} (o : Outcome) {f r g : ℕ} (told : Told (b + 1) o f r g) (small : b ≤ budget_limit) where
  pub last_counted : 1 ≤ units_of o → r ≤ b + 1 → 1 ≤ r
  last_counted some-unit l = step o some-unit told
    where
      step : (o : Outcome) → 1 ≤ units_of o → Told (b + 1) o f r g → 1 ≤ r
      step o h (found s u p q i j) = absurd (omega arith)
      step o h (nothing u p q i j) = let e : units_of o ≡ u = ap units_of p in omega arith
      step o h (spent p i j) = absurd (omega arith)

  pub stable_yes : r ≤ b + 1 → Yes (r - 1) ≡ capped b (stable_of o)
  stable_yes l = step told
    where
      step : Told (b + 1) o f r g → Yes (r - 1) ≡ capped b (stable_of o)
      step (found s u p q i j) = absurd (omega arith)
      step (nothing u p q i j) = ap (λ (x : ℕ). Yes (x - 1)) i ∙ within stable_of stable_answers b (Nothing u) (omega arith) ∙ ap (λ (x : Outcome). capped b (stable_of x)) (sym p)
      step (spent p i j) = absurd (omega arith)

  pub stable_past : b + 1 < r → past_budget b r g ≡ capped b (stable_of o)
  stable_past l = step told
    where
      late : (o : Outcome) → b + 1 < units_of o → b < verdict_units (stable_of o)
      late (Found s u) h = omega arith
      late (Nothing u) h = omega arith

      -- the set found may lie one unit past the budget
      within_lent : (s u : ℕ) → r ≡ found_mark + u → g ≡ s → Dec (u ≤ b) → past_budget b r g ≡ capped b (stable_of (Found s u))
      within_lent s u i j (yes h) = past_beaten b r g s u i j h ∙ within stable_of stable_answers b (Found s u) h
      within_lent s u i j (no h) = sym (past_spent b r g (λ _. omega arith)) ∙ beyond stable_of stable_answers b (Found s u) (omega arith)

      step : Told (b + 1) o f r g → past_budget b r g ≡ capped b (stable_of o)
      step (found s u p q i j) = within_lent s u i j (dec_le u b) ∙ ap (λ (x : Outcome). capped b (stable_of x)) (sym p)
      step (nothing u p q i j) = absurd (omega arith)
      step (spent p i j) = sym (past_spent b r g (λ k. omega (arith, j k))) ∙ beyond stable_of stable_answers b o (late o p)

-- the masks of the atoms, as the code has them
pub all_atoms : (n : ℕ) → n ≤ walk_atoms → (1 * 2 ^ n) % 2 ^ 64 - 1 ≡ all_of n
all_atoms n h = ap (λ (x : ℕ). x - 1) (shifted n h)

pub one_class_lem : (n all : ℕ) → all ≡ all_of n → all ∷ replicate (class_limit - 1) 0 ≡ one_class n
one_class_lem n all e = ap (λ (x : ℕ). x ∷ replicate (class_limit - 1) 0) e

module _ (cs ws ss : List ℕ) (n of b all : ℕ) (e : all ≡ all_of n) {v : Verdict} where
  pub preferred_told : (ks : List ℕ) (fixed : ℕ) → v ≡ capped b (verdict_of (descend (better_set cs ws ss ks (bit_xor all (bit_and fixed of)) (bit_xor all (bit_xor fixed (bit_and fixed of))) of) n 0 1)) → v ≡ capped b (preferred_m cs ws ss ks fixed n of)
  unfolding preferred_m outs_of ins_of
  preferred_told ks fixed h = h ∙ ap (λ (x : ℕ). capped b (verdict_of (descend (better_set cs ws ss ks (bit_xor x (bit_and fixed of)) (bit_xor x (bit_xor fixed (bit_and fixed of))) of) n 0 1))) e

  pub stable_told : (ks : List ℕ) → ks ≡ one_class n → v ≡ capped b (stable_of (descend (better_set cs ws ss ks all of of) n 0 1)) → v ≡ capped b (stable_m cs ws ss n of)
  unfolding stable_m
  stable_told ks one h = h ∙ (λ j. capped b (stable_of (descend (better_set cs ws ss (one j) (e j) of of) n 0 1)))
