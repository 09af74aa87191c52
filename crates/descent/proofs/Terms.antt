-- A plan with the terms of one search: its tables stay.
use Prim.Native.Nat.{ℕ, ◌+◌, ◌≤◌}
use mathlib.Core.Path.{◌≡◌, refl, sym, ap, ◌∙◌, subst}
use mathlib.Core.List.{List, [], ◌∷◌}
use native.Mathlib.Omega.{arith}
use lib.ListN.{length, set, length-set}
use Rattle.kinds.specs.Limits.{budget_limit, class_limit}
use Rattle.groups.specs.Groups.{root_group, place_limit}
use Rattle.groups.specs.Plans.{classes_from, starts_from, care_from, want_from, outs_in, ins_in, of_in, budget_in, one_in, classes_in, starts_in, care_in, want_in, SameTables, HasTables}
use Rattle.groups.proofs.PlanParts.{tables_part, has_tables}
use Rattle.descent.specs.Descent.{Asked, descend, Told}
use Rattle.descent.specs.Search.{better_set, planned, Searchable, with_terms}

module _ (outs ins of b : ℕ) where
  record Terms (q : List ℕ) : Type 0 where
    pub outs_are : outs_in q ≡ outs
    pub ins_are : ins_in q ≡ ins
    pub of_is : of_in q ≡ of
    pub budget_is : budget_in q ≡ b
    pub one_is : one_in q ≡ 1

  terms_set : (p : List ℕ) → starts_from ≤ length p → Terms (with_terms outs ins of b p) × SameTables (with_terms outs ins of b p) p
  unfolding with_terms
  terms_set [] h = absurd (omega arith)
  terms_set (x ∷ []) h = absurd (omega arith)
  terms_set (x ∷ y ∷ []) h = absurd (omega arith)
  terms_set (x ∷ y ∷ z ∷ []) h = absurd (omega arith)
  terms_set (x ∷ y ∷ z ∷ w ∷ []) h = absurd (omega arith)
  terms_set (x ∷ y ∷ z ∷ w ∷ v ∷ []) h = absurd (omega arith)
  terms_set (x ∷ y ∷ z ∷ w ∷ v ∷ u ∷ p) h = (record { outs_are = refl; ins_are = refl; of_is = refl; budget_is = refl; one_is = refl }, refl)

  module _ (p q : List ℕ) (e : q ≡ with_terms outs ins of b p) (has : HasTables p) where
    terms : Terms q × SameTables q p
    terms = subst (λ (l : List ℕ). Terms l × SameTables l p) (sym e) (terms_set p (let l = has.words in omega arith))

    same_length : length q ≡ length p
    unfolding with_terms
    same_length = ap length e ∙ length-set (set (set (set (set p 1 outs) 2 ins) 3 of) 4 b) 5 1 ∙ length-set (set (set (set p 1 outs) 2 ins) 3 of) 4 b ∙ length-set (set (set p 1 outs) 2 ins) 3 of ∙ length-set (set p 1 outs) 2 ins ∙ length-set p 1 outs

    pub tables_stay : HasTables q × SameTables q p
    tables_stay = (has_tables p q same_length terms.1 has, terms.1)

    pub searchable : b ≤ budget_limit + 1 → Searchable q
    searchable small = record { tables = tables_stay.0; budget_small = subst (λ (x : ℕ). x ≤ budget_limit + 1) (sym terms.0.budget_is) small; one_is = terms.0.one_is }

    asked : planned q ≡ better_set (care_in p) (want_in p) (starts_in p) (classes_in p) outs ins of
    asked j = better_set
        (tables_part care_from place_limit q p (omega arith) terms.1 j)
        (tables_part want_from place_limit q p (omega arith) terms.1 j)
        (tables_part starts_from (root_group + 2) q p (omega arith) terms.1 j)
        (tables_part classes_from class_limit q p (omega arith) terms.1 j)
        (terms.0.outs_are j) (terms.0.ins_are j) (terms.0.of_is j)

    pub told_asked : (n : ℕ) {f r g : ℕ} → Told (budget_in q) (descend (planned q) n 0 1) f r g → Told b (descend (better_set (care_in p) (want_in p) (starts_in p) (classes_in p) outs ins of) n 0 1) f r g
    told_asked n {f} {r} {g} told = subst (λ (t : Asked). Told b (descend t n 0 1) f r g) asked (subst (λ (x : ℕ). Told x (descend (planned q) n 0 1) f r g) terms.0.budget_is told)
