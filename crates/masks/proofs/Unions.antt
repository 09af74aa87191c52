-- The atoms of all classes together: two sets that agree on them agree on each class.
use Prim.Native.Nat.{ℕ, suc, ◌+◌, ◌-◌, ◌≤◌, ◌<◌, min, max}
use mathlib.Core.Path.{◌≡◌, refl, sym, ap, ap₂, ◌∙◌}
use mathlib.Core.Bool.{Bool, false, cond}
use mathlib.Core.List.{List, [], ◌∷◌}
use native.Mathlib.Numerals.{add-one}
use native.Mathlib.Omega.{arith}
use lib.Bits.{bit_and, bit_or, bit_xor, or_zero_l, or_zero_r}
use lib.ListN.{length, get_or, drop, drop_of_length-le}
use lib.Seq.{drop-cons}
use borrow.Author.Tests.{eq-eqb}
use Rattle.masks.specs.Masks.{agree_m, within_m, spares_m, union_of}
use Rattle.masks.proofs.Bits.{bit, bit_lt, bit_of_zero, bit_and_lem, bit_or_lem, bit_xor_lem, ext}
use Rattle.masks.proofs.MaskLoops.{or_assoc}

-- one mask further
module _ (ks : List ℕ) where
  pub union_first : union_of ks ≡ bit_or 0 (union_of ks)
  union_first = sym (or_zero_l (union_of ks))

  module _ (m i : ℕ) (e : union_of ks ≡ bit_or m (union_of (drop i ks))) where
    pub union_more : i < length ks → union_of ks ≡ bit_or (bit_or m (get_or ks i 0)) (union_of (drop (i + 1) ks))
    unfolding union_of
    union_more h =
        e ∙ ap (λ (l : List ℕ). bit_or m (union_of l)) (drop-cons ks i 0 h)
        ∙ sym (or_assoc m (get_or ks i 0) (union_of (drop (suc i) ks)))
        ∙ ap (λ (k : ℕ). bit_or (bit_or m (get_or ks i 0)) (union_of (drop k ks))) (sym (add-one i))

    pub union_last : length ks ≤ i → m ≡ union_of ks
    unfolding union_of
    union_last h = sym (e ∙ ap (λ (l : List ℕ). bit_or m (union_of l)) (drop_of_length-le ks h) ∙ or_zero_r m)

module _ (m s : ℕ) where
  abbrev differing : ℕ → ℕ
  differing i = (bit s i - bit m i) + (bit m i - bit s i)

  module _ (c u : ℕ) (e : bit_and (bit_xor s m) (bit_or c u) ≡ 0) where
    none_differs : (i : ℕ) → min (differing i) (max (bit c i) (bit u i)) ≡ 0
    none_differs i =
        ap₂ min (sym (bit_xor_lem s m i)) (sym (bit_or_lem c u i)) ∙ sym (bit_and_lem (bit_xor s m) (bit_or c u) i) ∙ ap (λ (x : ℕ). bit x i) e ∙ bit_of_zero i

    same_part : bit_and s c ≡ bit_and m c
    same_part = ext _ _ (λ i. bit_and_lem s c i ∙ (let z : min (bit s i) (bit c i) ≡ min (bit m i) (bit c i) = omega (arith, none_differs i, bit_lt s i, bit_lt m i, bit_lt c i) in z) ∙ sym (bit_and_lem m c i))

    same_rest : bit_and (bit_xor s m) u ≡ 0
    same_rest = ext _ _ (λ i. bit_and_lem (bit_xor s m) u i ∙ ap (λ (x : ℕ). min x (bit u i)) (bit_xor_lem s m i) ∙ (let z : min (differing i) (bit u i) ≡ bit 0 i = omega (arith, none_differs i, bit_of_zero i) in z))

  pub union_agrees : (ks : List ℕ) → bit_and (bit_xor s m) (union_of ks) ≡ 0 → false ≡ spares_m m s ks
  unfolding union_of spares_m agree_m
  union_agrees [] e = refl
  union_agrees (c ∷ ks) e = union_agrees ks (same_rest c (union_of ks) e) ∙ ap (λ (b : Bool). cond b (spares_m m s ks) (within_m m s c)) (sym (eq-eqb _ _ (same_part c (union_of ks) e)))
