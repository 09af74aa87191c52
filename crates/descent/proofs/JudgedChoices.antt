-- Choices judged by a test, one after another, are searched: places in the outcome are sets in the answer.
use Prim.Native.Nat.{ℕ, suc, ◌^◌, ◌<◌}
use mathlib.Core.Path.{◌≡◌, refl, ap, ◌∙◌}
use mathlib.Core.Bool.{Bool, true, false, cond}
use mathlib.Core.List.{List, [], ◌∷◌}
use native.Mathlib.Omega.{arith}
use lib.Pow.{pow_mono}
use Rattle.rules.specs.Lists.{All}
use Rattle.rules.proofs.Lists.{all_imp}
use Rattle.places.specs.Places.{place}
use Rattle.places.proofs.Places.{turned_twice}
use Rattle.choices.specs.Choices.{Choice, Course, visited}
use Rattle.choices.proofs.Trees.{Below, visited_extend}
use Rattle.walks.specs.Walk.{search}
use Rattle.walks.specs.declared.answers.Verdict.TheVariants.{Beaten}
use Rattle.masks.specs.AnswersAt.{verdict_at}
use Rattle.descent.specs.Descent.{Outcome, Found, Nothing, go_on}
use Rattle.descent.specs.Visits.{first_found}
use Rattle.descent.specs.Verdicts.{verdict_of}

-- the place of a choice that passes is found
abbrev pub judge_by : ℕ → (Choice → Bool) → Choice → ℕ → Outcome
judge_by n test k u = cond (test k) (Found (place n k.taken) u) (Nothing u)

-- the set is one of n atoms
abbrev pub OfAtoms : ℕ → Choice → Type 0
OfAtoms n k = k.taken < 2 ^ n

pub all_of_atoms : (c : Course) (n : ℕ) → All (OfAtoms n) (visited c n 0 0)
all_of_atoms c n = all_imp (Below n 0 0) (OfAtoms n) (λ k b. omega (arith, b.set, pow_mono {i = k.decided} {j = n} b.inside)) (visited c n 0 0) (visited_extend c n n 0 0 (omega arith) (omega arith))

pub found_searched : (n : ℕ) (test : Choice → Bool) (l : List Choice) (u : ℕ) → All (OfAtoms n) l → verdict_at n (verdict_of (first_found (judge_by n test) l u)) ≡ search (λ k. k.taken) test l u
unfolding first_found search verdict_at
found_searched n test [] u h = refl
found_searched n test (k ∷ l) u h = step (test k) (found_searched n test l (suc u) h.1)
  where
    step : (b : Bool) → verdict_at n (verdict_of (first_found (judge_by n test) l (suc u))) ≡ search (λ k. k.taken) test l (suc u)
        → verdict_at n (verdict_of (go_on (cond b (Found (place n k.taken) (suc u)) (Nothing (suc u))) (λ v. first_found (judge_by n test) l v)))
        ≡ cond b (Beaten k.taken (suc u)) (search (λ k. k.taken) test l (suc u))
    step true e = ap (λ (s : ℕ). Beaten s (suc u)) (turned_twice n k.taken h.0)
    step false e = e

pub found_same : (judge judge' : Choice → ℕ → Outcome) (l : List Choice) (u : ℕ) → All (λ k. (u : ℕ) → judge k u ≡ judge' k u) l → first_found judge l u ≡ first_found judge' l u
unfolding first_found
found_same judge judge' [] u h = refl
found_same judge judge' (k ∷ l) u h = ap (λ (o : Outcome). go_on o (λ v. first_found judge l v)) (h.0 (suc u)) ∙ step (judge' k (suc u)) (λ v. found_same judge judge' l v h.1)
  where
    step : (o : Outcome) → ((v : ℕ) → first_found judge l v ≡ first_found judge' l v) → go_on o (λ v. first_found judge l v) ≡ go_on o (λ v. first_found judge' l v)
    step (Found s v) r = refl
    step (Nothing v) r = r v
