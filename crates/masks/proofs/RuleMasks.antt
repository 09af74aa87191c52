-- A rule as two masks: broken at s exactly when s & care is want.
use Prim.Native.Nat.{ℕ}
use mathlib.Core.Path.{◌≡◌, refl, sym, ap, ap₂, ◌∙◌, subst}
use mathlib.Core.Logic.{◌⊎◌, inl, inr, ◌↔◌}
use mathlib.Core.Bool.{Bool, true, false, not, cond, ◌&&◌, ◌||◌}
use mathlib.Core.List.{List, [], ◌∷◌, map}
use native.Mathlib.Omega.{arith}
use lib.Dec.{T, eqb, eqb→eq}
use lib.Bits.{bit_and, bit_or, and_zero_r}
use Rattle.rules.specs.Lists.{All, every, some}
use Rattle.rules.specs.Sets.{has, Out}
use Rattle.rules.specs.Rules.{Rule, is_holding, count_if, first_broken}
use Rattle.rules.proofs.Booleans.{stable, bool_ext, T_of, T_and, T-and-l, T-and-r, T-or, T-or-out, T-not-in, T-not-out}
use Rattle.rules.proofs.Rules.{all_in, any_in, holds_law}
use Rattle.masks.specs.Masks.{mask_of, breakable, care_of, want_of, first_m}
use Rattle.masks.proofs.MaskBits.{has_and, has_or, every_mask, some_mask, same_members, disjoint}

-- one test for a body that is in and a head that is out, where the two have no atom in common
one_test : (s h b : ℕ) → T (eqb (bit_and h b) 0)
    → T (eqb (bit_and s (bit_or h b)) b) ↔ (((i : ℕ) → T (has b i) → T (has s i)) × ((i : ℕ) → T (has h i) → T (has s i) → ⊥))
one_test s h b apart = (there, back)
  where
    law : T (eqb (bit_and s (bit_or h b)) b) ↔ ((i : ℕ) → has (bit_and s (bit_or h b)) i ≡ has b i)
    law = same_members (bit_and s (bit_or h b)) b

    members : (i : ℕ) → has (bit_and s (bit_or h b)) i ≡ (has s i && (has h i || has b i))
    members i = has_and s (bit_or h b) i ∙ ap (λ (p : Bool). has s i && p) (has_or h b i)

    there : T (eqb (bit_and s (bit_or h b)) b) → ((i : ℕ) → T (has b i) → T (has s i)) × ((i : ℕ) → T (has h i) → T (has s i) → ⊥)
    there e = (
      λ i t. T-and-l (has s i) (has h i || has b i) (T_of (sym (law.0 e i) ∙ members i) t),
      λ i t k. (disjoint h b).0 apart i (T_of (sym (members i) ∙ law.0 e i) (T_and (has s i) (has h i || has b i) k (T-or (has h i) (has b i) (inl t)))) t,
    )

    back : ((i : ℕ) → T (has b i) → T (has s i)) × ((i : ℕ) → T (has h i) → T (has s i) → ⊥) → T (eqb (bit_and s (bit_or h b)) b)
    back f = law.1 (λ i. members i ∙ bool_ext (has s i && (has h i || has b i)) (has b i)
        (λ t. only i (T-and-l (has s i) (has h i || has b i) t) (T-or-out (has h i) (has b i) (T-and-r (has s i) (has h i || has b i) t)))
        (λ t. T_and (has s i) (has h i || has b i) (f.0 i t) (T-or (has h i) (has b i) (inr t))))
      where
        only : (i : ℕ) → T (has s i) → T (has h i) ⊎ T (has b i) → T (has b i)
        only i k (inl t) = absurd (f.1 i t k)
        only i k (inr t) = t

pub never : (s : ℕ) → T (eqb (bit_and s 0) 1) → ⊥
never s h = let e : bit_and s 0 ≡ 1 = eqb→eq (bit_and s 0) 1 h in omega (arith, and_zero_r s)

module _ (s : ℕ) (r : Rule ℕ) where
  abbrev Broken : Type 0
  Broken = T (every (has s) r.body) × T (not (some (has s) r.head))

  alive : Broken → T (breakable (mask_of r.head) (mask_of r.body))
  alive b = (disjoint (mask_of r.head) (mask_of r.body)).1 (λ i t k. (some_mask (has s) r.head).0 b.1 i k ((every_mask (has s) r.body).0 b.0 i t))

  pub broken_law : T (eqb (bit_and s (care_of r)) (want_of r)) ↔ Broken
  unfolding care_of want_of
  broken_law = step (breakable (mask_of r.head) (mask_of r.body)) refl
    where
      step : (b : Bool) → breakable (mask_of r.head) (mask_of r.body) ≡ b
          → T (eqb (bit_and s (cond b (bit_or (mask_of r.head) (mask_of r.body)) 0)) (cond b (mask_of r.body) 1)) ↔ Broken
      step true e =
          let q = one_test s (mask_of r.head) (mask_of r.body) (T_of (sym e) tt) in (
            λ t. let f = q.0 t in ((every_mask (has s) r.body).1 f.0, (some_mask (has s) r.head).1 f.1),
            λ b. q.1 ((every_mask (has s) r.body).0 b.0, (some_mask (has s) r.head).0 b.1),
          )
      step false e = (λ t. absurd (never s t), λ b. absurd (T_of e (alive b)))

  -- a rule without `not` atoms is met by its masks
  rule_mask : r.nots ≡ [] → not (eqb (bit_and s (care_of r)) (want_of r)) ≡ is_holding (has s) r
  rule_mask e = bool_ext (not (eqb (bit_and s (care_of r)) (want_of r))) (is_holding (has s) r)
      (λ t. (holds_law (has s) r).1 (λ b n. (any_in (has s) r.head).0 (stable (some (has s) r.head) (λ k.
      T-not-out (eqb (bit_and s (care_of r)) (want_of r)) t (broken_law.1 ((all_in (has s) r.body).1 b, T-not-in (some (has s) r.head) k))))))
      (λ t. T-not-in (eqb (bit_and s (care_of r)) (want_of r)) (λ k.
      let b = broken_law.0 k in
      T-not-out (some (has s) r.head) b.1 ((any_in (has s) r.head).1 ((holds_law (has s) r).0 t ((all_in (has s) r.body).0 b.0) (subst (All (Out (has s))) (sym e) tt)))))

-- the rules of a program

module _ (s : ℕ) where
  pub first_mask : (rs : List (Rule ℕ)) → All (λ r. r.nots ≡ []) rs → first_m s (map care_of rs) (map want_of rs) ≡ first_broken rs (has s)
  unfolding first_m
  first_mask [] h = refl
  first_mask (r ∷ rs) h = ap₂ count_if (rule_mask s r h.0) (first_mask rs h.1)
