-- Lists one after the other: where each starts, and what stands at its places.
use Prim.Native.Nat.{ℕ, zero, suc, ◌+◌, ◌-◌, ◌≤◌, ◌<◌}
use mathlib.Core.Path.{◌≡◌, sym, ap, subst, ◌∙◌}
use mathlib.Core.List.{List, [], ◌++◌}
use native.Mathlib.Omega.{arith}
use native.Mathlib.Nat.{zero-add}
use native.Mathlib.Decide.{dec_lt}
use lib.ListN.{length, get_or, length-append, get_or-append}
use lib.Seq.{get_or-append-add, ext_get_or}
use Rattle.rules.specs.Lists.{flat, from}
use Rattle.rules.proofs.Lists.{from_append}
use Rattle.rules.proofs.ListLaws.{flat_append}

module _ (g : ℕ → List ℕ) where
  pub flat_parts : (a d : ℕ) → flat g (from 0 (a + d)) ≡ flat g (from 0 a) ++ flat g (from a d)
  flat_parts a d = ap (flat g) (sym (subst (λ (b : ℕ). from 0 a ++ from b d ≡ from 0 (a + d)) (zero-add a) (from_append 0 a d))) ∙ flat_append g (from 0 a) (from a d)

  pub flat_split : (n a : ℕ) → a < n → flat g (from 0 n) ≡ flat g (from 0 a) ++ (g a ++ flat g (from (suc a) (n - suc a)))
  flat_split n a l =
      let e : a + suc (n - suc a) ≡ n = omega arith in
      subst (λ (m : ℕ). flat g (from 0 m) ≡ flat g (from 0 a) ++ (g a ++ flat g (from (suc a) (n - suc a)))) e (flat_parts a (suc (n - suc a)))

  pub flat_next : (a : ℕ) → length (flat g (from 0 (suc a))) ≡ length (flat g (from 0 a)) + length (g a)
  flat_next a =
      let e : a + 1 ≡ suc a = omega arith in
      let whole : length (flat g (from 0 (suc a))) ≡ length (flat g (from 0 a) ++ (g a ++ [])) = ap (λ (m : ℕ). length (flat g (from 0 m))) (sym e) ∙ ap length (flat_parts a 1) in
      omega (arith, whole, length-append (flat g (from 0 a)) (g a ++ []), length-append (g a) [])

  pub flat_inside : (n a : ℕ) → a < n → length (flat g (from 0 a)) + length (g a) ≤ length (flat g (from 0 n))
  flat_inside n a l =
      let rest = flat g (from (suc a) (n - suc a)) in
      omega (arith, ap length (flat_split n a l), length-append (flat g (from 0 a)) (g a ++ rest), length-append (g a) rest)

  pub flat_at : (n a k : ℕ) → a < n → k < length (g a) → get_or (flat g (from 0 n)) (length (flat g (from 0 a)) + k) 0 ≡ get_or (g a) k 0
  flat_at n a k l u =
      let rest = flat g (from (suc a) (n - suc a)) in
      ap (λ (ws : List ℕ). get_or ws (length (flat g (from 0 a)) + k) 0) (flat_split n a l)
      ∙ get_or-append-add (flat g (from 0 a)) (g a ++ rest) k 0
      ∙ get_or-append (g a) rest 0 k u

  -- the list in which a place stands, and its place there
  pub flat_place : (n i : ℕ) → i < length (flat g (from 0 n)) → (a : ℕ) × (k : ℕ) × (a < n) × (k < length (g a)) × (length (flat g (from 0 a)) + k ≡ i)
  flat_place zero i l = absurd (omega arith)
  flat_place (suc n) i l = step (flat_place n i) (dec_lt i (length (flat g (from 0 n))))
    where
      step : (i < length (flat g (from 0 n)) → (a : ℕ) × (k : ℕ) × (a < n) × (k < length (g a)) × (length (flat g (from 0 a)) + k ≡ i)) → Dec (i < length (flat g (from 0 n)))
          → (a : ℕ) × (k : ℕ) × (a < suc n) × (k < length (g a)) × (length (flat g (from 0 a)) + k ≡ i)
      step f (yes u) = let q = f u in (q.0, q.1, omega (arith, q.2), q.3, q.4)
      step f (no u) = (n, i - length (flat g (from 0 n)), omega arith, omega (arith, flat_next n), omega arith)

  pub flat_from : (n : ℕ) (ws : List ℕ) → length ws ≡ length (flat g (from 0 n))
      → ((a k : ℕ) → a < n → k < length (g a) → get_or ws (length (flat g (from 0 a)) + k) 0 ≡ get_or (g a) k 0) → ws ≡ flat g (from 0 n)
  flat_from n ws e h = ext_get_or 0 ws (flat g (from 0 n)) e each
    where
      each : (i : ℕ) → i < length ws → get_or ws i 0 ≡ get_or (flat g (from 0 n)) i 0
      each i l =
          let q = flat_place n i (omega arith) in
          subst (λ (j : ℕ). get_or ws j 0 ≡ get_or (flat g (from 0 n)) j 0) q.4 (h q.0 q.1 q.2 q.3 ∙ sym (flat_at n q.0 q.1 q.2 q.3))
