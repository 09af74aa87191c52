-- Rising lists of rule numbers, and their test.
use Prim.Native.Nat.{ℕ, zero, suc, ◌+◌, ◌≤◌, ◌<◌}
use mathlib.Core.Bool.{Bool, true, false}
use mathlib.Core.Logic.{◌↔◌}
use mathlib.Core.List.{List, [], ◌∷◌}
use native.Mathlib.Omega.{arith}
use lib.Dec.{T, leb→le, le→leb, ltb→lt, lt→ltb}
use lib.ListN.{length}
use Rattle.rules.specs.Lists.{All, keep}
use Rattle.rules.specs.Rules.{Rule}
use Rattle.rules.proofs.Lists.{all_imp, all_at, all_both}
use Rattle.stores.proofs.RuleTests.{and_iff}
use Rattle.rule_index.specs.Index.{numbers_of}
use Rattle.rule_index.specs.Flip.{is_rising}
use Rattle.rule_index.specs.Meanings.{Rising}
use Rattle.rule_index.proofs.RuleNumbers.{numbers_within}

rising_cons : (i : ℕ) (is : List ℕ) → All (λ j. i < j) is → Rising is → Rising (i ∷ is)
rising_cons i is h r zero l = all_at (λ j. i < j) 0 is h 0 (omega arith)
rising_cons i is h r (suc j) l = r j (omega arith)

rising_above : (i : ℕ) (is : List ℕ) → Rising (i ∷ is) → All (λ j. i < j) is
rising_above i [] r = tt
rising_above i (k ∷ ks) r =
    let l : i < k = r 0 (omega arith) in
    (l, all_imp (λ j. k < j) (λ j. i < j) (λ j u. omega arith) ks (rising_above k ks (λ j u. r (suc j) (omega arith))))

rising_from : (b r : ℕ) (list : List ℕ) → T (is_rising b r list) ↔ (Rising list × All (λ i. (b ≤ i) × (i < r)) list)
unfolding is_rising
rising_from b r [] = (λ h. (λ j l. absurd (omega arith), tt), λ h. tt)
rising_from b r (i ∷ is) =
    let rest = rising_from (suc i) r is in (
      λ h.
          let t = simp and_iff at h in
          let low : b ≤ i = leb→le b i t.0 in
          let q = rest.0 t.1.1 in (
            rising_cons i is (all_imp (λ j. (suc i ≤ j) × (j < r)) (λ j. i < j) (λ j k. omega (arith, k.0)) is q.1) q.0,
            ((low, ltb→lt i r t.1.0), all_imp (λ j. (suc i ≤ j) × (j < r)) (λ j. (b ≤ j) × (j < r)) (λ j k. (omega (arith, k.0), k.1)) is q.1),
          ),
      λ h.
          let above = all_both (λ j. i < j) (λ j. (b ≤ j) × (j < r)) is (rising_above i is h.0) h.1.1 in
          simp and_iff (
            le→leb b i h.1.0.0,
            (lt→ltb i r h.1.0.1, rest.1 (λ j u. h.0 (suc j) (omega arith), all_imp (λ j. (i < j) × ((b ≤ j) × (j < r))) (λ j. (suc i ≤ j) × (j < r)) (λ j k. (omega (arith, k.0), k.1.1)) is above)),
          ),
    )

pub rising_iff : (r : ℕ) (list : List ℕ) → T (is_rising 0 r list) ↔ (Rising list × All (λ i. i < r) list)
rising_iff r list =
    let law = rising_from 0 r list in (
      λ h. let q = law.0 h in (q.0, all_imp (λ i. (0 ≤ i) × (i < r)) (λ i. i < r) (λ i k. k.1) list q.1),
      λ h. law.1 (h.0, all_imp (λ i. i < r) (λ i. (0 ≤ i) × (i < r)) (λ i k. (omega arith, k)) list h.1),
    )

-- the numbers of the rules that pass a test
pub numbers_rising : (t : ℕ → Rule ℕ → Bool) (s : ℕ) (rs : List (Rule ℕ)) → Rising (numbers_of t s rs)
numbers_rising t s [] = λ j l. absurd (omega arith)
numbers_rising t s (r ∷ rs) = step (t s r) (numbers_rising t (suc s) rs)
  where
    rest : List ℕ
    rest = numbers_of t (suc s) rs

    step : (b : Bool) → Rising rest → Rising (keep b s rest)
    step true h = rising_cons s rest (all_imp (λ i. (suc s ≤ i) × (i < suc s + length rs)) (λ i. s < i) (λ i k. omega (arith, k.0)) rest (numbers_within t (suc s) rs)) h
    step false h = h
