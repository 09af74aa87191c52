-- What the search for a better set asks, by masks: the rules in groups by their last atom, the classes, and the values that an atom may have.
use Rattle.std.specs.Prelude.{ℕ, ◌+◌, ◌≤◌, ◌≡◌, Bool, cond, List, set}
use Rattle.kinds.specs.Limits.{budget_limit}
use Rattle.rules.specs.Sets.{has}
use Rattle.groups.specs.Groups.{group_at, broken_in}
use Rattle.groups.specs.Plans.{HasTables, outs_in, ins_in, of_in, budget_in, one_in, classes_in, starts_in, care_in, want_in}
use Rattle.masks.specs.Masks.{spares_m}
use Rattle.descent.specs.Descent.{Outcome, Found, Nothing, Asked}

-- the atoms that may have a value
abbrev pub may_be : ℕ → ℕ → Bool → ℕ
may_be outs ins v = cond v ins outs

-- a final choice is better where at the first class on which it differs from `of` it has a part of what `of` has
unfoldable pub better : List ℕ → ℕ → ℕ → ℕ → Outcome
better classes of s u = cond (spares_m of s classes) (Found s u) (Nothing u)

abbrev pub better_set : List ℕ → List ℕ → List ℕ → List ℕ → ℕ → ℕ → ℕ → Asked
better_set care want starts classes outs ins of = record {
  visits = λ k v s. has (may_be outs ins v) k;
  closes = λ k v s. broken_in care want starts (group_at k v) s;
  ends = better classes of;
}

-- the search by a plan
abbrev pub planned : List ℕ → Asked
planned p = better_set (care_in p) (want_in p) (starts_in p) (classes_in p) (outs_in p) (ins_in p) (of_in p)

-- a plan that can be searched by: its budget leaves room for the units past it
pub record Searchable (p : List ℕ) : Type 0 where
  pub tables : HasTables p
  pub budget_small : budget_in p ≤ budget_limit + 1
  pub one_is : one_in p ≡ 1

-- a plan with other terms
unfoldable pub with_terms : ℕ → ℕ → ℕ → ℕ → List ℕ → List ℕ
with_terms outs ins of budget p = set (set (set (set (set p 1 outs) 2 ins) 3 of) 4 budget) 5 1
