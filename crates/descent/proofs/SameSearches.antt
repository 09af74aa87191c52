-- Plans that differ in no more than the set found are searched alike.
use Prim.Native.Nat.{ℕ, ◌+◌, ◌≤◌}
use mathlib.Core.Path.{◌≡◌, refl, sym, ap, ◌∙◌, subst}
use mathlib.Core.Bool.{Bool}
use mathlib.Core.List.{List, [], ◌∷◌}
use native.Mathlib.Omega.{arith}
use lib.ListN.{length, get_or, set, length-drop}
use lib.Seq.{get_or-drop}
use Rattle.kinds.specs.Limits.{budget_limit, class_limit}
use Rattle.groups.specs.Groups.{root_group, place_limit}
use Rattle.groups.specs.Plans.{classes_from, starts_from, care_from, want_from, plan_words, found_in, budget_in, SameSearch, SameTables, HasTables}
use Rattle.groups.proofs.PlanParts.{drop_later, tables_part, has_tables}
use Rattle.descent.specs.Descent.{Outcome, Asked, visit, descend, Told}
use Rattle.descent.specs.Search.{better_set, planned, Searchable}

module _ (p q : List ℕ) (same : SameSearch q p) where
  same_word : (i : ℕ) → get_or q (1 + i) 0 ≡ get_or p (1 + i) 0
  same_word i = sym (get_or-drop 1 q i 0) ∙ ap (λ (l : List ℕ). get_or l i 0) same ∙ get_or-drop 1 p i 0

  same_tables : SameTables q p
  same_tables = drop_later 1 starts_from q p (omega arith) same

  pub same_budget : budget_in q ≡ budget_in p
  same_budget = same_word 3

  same_planned : planned q ≡ planned p
  same_planned j = better_set
      (tables_part care_from place_limit q p (omega arith) same_tables j)
      (tables_part want_from place_limit q p (omega arith) same_tables j)
      (tables_part starts_from (root_group + 2) q p (omega arith) same_tables j)
      (tables_part classes_from class_limit q p (omega arith) same_tables j)
      (same_word 0 j) (same_word 1 j) (same_word 2 j)

  pub told_same : (k : ℕ) (v : Bool) (x u : ℕ) {f r g : ℕ} → Told (budget_in q) (visit (planned q) k v (λ y w. descend (planned q) k y w) x u) f r g → Told (budget_in p) (visit (planned p) k v (λ y w. descend (planned p) k y w) x u) f r g
  told_same k v x u {f} {r} {g} told = subst (λ (t : Asked). Told (budget_in p) (visit t k v (λ y w. descend t k y w) x u) f r g) same_planned (subst (λ (b : ℕ). Told b (visit (planned q) k v (λ y w. descend (planned q) k y w) x u) f r g) same_budget told)

  module _ (has : HasTables p) where
    same_length : length q ≡ length p
    same_length = let w = has.words in omega (arith, length-drop 1 q, length-drop 1 p, ap length same)

    tables_same : HasTables q
    tables_same = has_tables p q same_length same_tables has

  -- and so the tables are those that were before
  pub tables_still : (o : List ℕ) → HasTables p × SameTables p o → HasTables q × SameTables q o
  tables_still o before = (tables_same before.0, same_tables ∙ before.1)

  pub same_searchable : Searchable p → Searchable q
  same_searchable h = record { tables = tables_same h.tables; budget_small = subst (λ (x : ℕ). x ≤ budget_limit + 1) (sym same_budget) h.budget_small; one_is = same_word 4 ∙ h.one_is }

-- the set found is put in its place
pub found_put : (b : ℕ) (o : Outcome) (f r s : ℕ) (p : List ℕ) → length p ≡ plan_words → Told b o f r s → Told b o f r (found_in (set p 0 s)) × SameSearch (set p 0 s) p
found_put b o f r s [] long told = absurd (omega arith)
found_put b o f r s (x ∷ p) long told = (told, refl)
