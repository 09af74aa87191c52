-- A next state over masks stands at its start or after it.
use Prim.Native.Nat.{ℕ, zero, suc, ◌+◌, ◌^◌, ◌≤◌, ◌<◌}
use mathlib.Core.Path.{◌≡◌, refl}
use mathlib.Core.Bool.{Bool, true, false, cond}
use mathlib.Core.List.{List}
use native.Mathlib.Omega.{arith}
use native.Mathlib.Nat.{pow-suc}
use lib.Dec.{T, leb, ltb, ltb→lt}
use borrow.Author.Tests.{leb-false}
use Rattle.walks.specs.Walk.{capped_next}
use Rattle.walks.specs.declared.answers.Verdict.{Verdict}
use Rattle.walks.specs.declared.answers.Verdict.TheVariants.{Yes, Broken, Beaten, Spent, Refused}
use Rattle.walks.specs.declared.answers.NextState.TheVariants.{State, Nothing as NoState, Spent as NextSpent}
use Rattle.groups.specs.Groups.{root_group, broken_in}
use Rattle.descent.specs.Descent.{Outcome, Found, Nothing, go_on, visit, descend}
use Rattle.descent.specs.Verdicts.{preferred_m}
use Rattle.lister.specs.NextMasks.{candidate, from_start, next_outcome, next_of, next_m}

-- a set found at p lies from s and the start on, and before the end
pub record Between (start s end p : ℕ) : Type 0 where
  pub from_start_lem : start ≤ p
  pub from_here : s ≤ p
  pub before_end : p < end

-- what is found, if anything is
abbrev FoundBetween : ℕ → ℕ → ℕ → Outcome → Type 0
FoundBetween start s end (Found p u) = Between start s end p
FoundBetween start s end (Nothing u) = Unit {0}

wider : (start s s' end end' : ℕ) (o : Outcome) → s ≤ s' → end' ≤ end → FoundBetween start s' end' o → FoundBetween start s end o
wider start s s' end end' (Found p u) l g h = record { from_start_lem = h.from_start_lem; from_here = omega (arith, h.from_here); before_end = omega (arith, h.before_end) }
wider start s s' end end' (Nothing u) l g h = tt

candidate_here : (v : Verdict) (start s u : ℕ) → start ≤ s → FoundBetween start s (suc s) (candidate v s u)
candidate_here (Yes w) start s u l = record { from_start_lem = l; from_here = omega arith; before_end = omega arith }
candidate_here (Broken i) start s u l = tt
candidate_here (Beaten t w) start s u l = tt
candidate_here (Spent w) start s u l = tt
candidate_here (Refused f) start s u l = tt

goes_on : (start s end : ℕ) (o : Outcome) (f : ℕ → Outcome) → FoundBetween start s end o → ((v : ℕ) → FoundBetween start s end (f v)) → FoundBetween start s end (go_on o f)
goes_on start s end (Found p u) f h r = h
goes_on start s end (Nothing u) f h r = r u

module _ (care want starts classes : List ℕ) (fixed n start : ℕ) where
  below_found : (left s u : ℕ) → start < s + 2 ^ left → FoundBetween start s (s + 2 ^ left) (descend (from_start care want starts classes fixed n start) left s u)
  unfolding descend visit
  below_found zero s u l = wider start s s (s + 2 ^ 0) (suc s) (candidate (preferred_m care want starts classes fixed n s) s u) (omega arith) (omega arith) (candidate_here (preferred_m care want starts classes fixed n s) start s u (omega arith))
  below_found (suc k) s u l =
      goes_on start s (s + 2 ^ suc k) (cond (ltb start (s + 2 ^ k)) (cond (closes false s) (Nothing (suc u)) (go s (suc u))) (Nothing u)) (λ v. cond (closes true (s + 2 ^ k)) (Nothing (suc v)) (go (s + 2 ^ k) (suc v)))
      (out (ltb start (s + 2 ^ k)) (closes false s) (λ t. below_found k s (suc u) (ltb→lt start (s + 2 ^ k) t)))
      (λ v. into (closes true (s + 2 ^ k)) v (below_found k (s + 2 ^ k) (suc v) (omega (arith, pow-suc 2 k))))
    where
      closes : Bool → ℕ → Bool
      closes v x = (from_start care want starts classes fixed n start).closes k v x

      go : ℕ → ℕ → Outcome
      go x v = descend (from_start care want starts classes fixed n start) k x v

      half : s + 2 ^ k ≤ s + 2 ^ suc k
      half = omega (arith, pow-suc 2 k)

      out : (a b : Bool) → (T a → FoundBetween start s (s + 2 ^ k) (go s (suc u))) → FoundBetween start s (s + 2 ^ suc k) (cond a (cond b (Nothing (suc u)) (go s (suc u))) (Nothing u))
      out true true r = tt
      out true false r = wider start s s (s + 2 ^ suc k) (s + 2 ^ k) (go s (suc u)) (omega arith) half (r tt)
      out false b r = tt

      into : (b : Bool) (v : ℕ) → FoundBetween start (s + 2 ^ k) (s + 2 ^ k + 2 ^ k) (go (s + 2 ^ k) (suc v)) → FoundBetween start s (s + 2 ^ suc k) (cond b (Nothing (suc v)) (go (s + 2 ^ k) (suc v)))
      into true v r = tt
      into false v r = wider start s (s + 2 ^ k) (s + 2 ^ suc k) (s + 2 ^ k + 2 ^ k) (go (s + 2 ^ k) (suc v)) (omega arith) (omega (arith, pow-suc 2 k)) r

  outcome_found : FoundBetween start 0 (2 ^ n) (next_outcome care want starts classes fixed n start)
  unfolding next_outcome
  outcome_found = step (leb (2 ^ n) start) refl (broken_in care want starts root_group 0)
    where
      go : Outcome
      go = descend (from_start care want starts classes fixed n start) n 0 1

      step : (a : Bool) → leb (2 ^ n) start ≡ a → (b : Bool) → FoundBetween start 0 (2 ^ n) (cond a (Nothing 0) (cond b (Nothing 1) go))
      step true e b = tt
      step false e true = tt
      step false e false = wider start 0 0 (2 ^ n) (0 + 2 ^ n) go (omega arith) (omega arith) (below_found n 0 1 (omega (arith, leb-false (2 ^ n) start e)))

  pub next_between : (b p u : ℕ) → next_m care want starts classes fixed n start b ≡ State p u → (start ≤ p) × (p < 2 ^ n)
  unfolding next_m capped_next
  next_between b p u e = step (next_outcome care want starts classes fixed n start) outcome_found e
    where
      step : (o : Outcome) → FoundBetween start 0 (2 ^ n) o → capped_next b (next_of o) ≡ State p u → (start ≤ p) × (p < 2 ^ n)
      step (Found q w) h e = told (leb w b) e
        where
          told : (t : Bool) → cond t (State q w) (NextSpent b) ≡ State p u → (start ≤ p) × (p < 2 ^ n)
          told true f = let i : q ≡ p = cc in (omega (arith, h.from_start_lem), omega (arith, h.before_end))
          told false f = absurd (let z : ◌≡◌ {A = ℕ} 0 1 = cc in omega arith)
      step (Nothing w) h e = told (leb w b) e
        where
          told : (t : Bool) → cond t (NoState w) (NextSpent b) ≡ State p u → (start ≤ p) × (p < 2 ^ n)
          told true f = absurd (let z : ◌≡◌ {A = ℕ} 0 1 = cc in omega arith)
          told false f = absurd (let z : ◌≡◌ {A = ℕ} 0 1 = cc in omega arith)
