-- The parts of a plan, the one array that a search goes by: the set found, the terms that each search is given anew, then the tables that stay.
use Rattle.std.specs.Prelude.{ℕ, ◌+◌, ◌≡◌, List, length, get_or, take, drop}
use Rattle.kinds.specs.Limits.{class_limit}
use Rattle.masks.specs.Masks.{union_of}
use Rattle.groups.specs.Groups.{root_group, place_limit, Bounded, Paired, GroupsOf}

-- the n words from number a on
unfoldable pub part : ℕ → ℕ → List ℕ → List ℕ
part a n p = take n (drop a p)

abbrev pub starts_from : ℕ
starts_from = 6

abbrev pub classes_from : ℕ
classes_from = starts_from + (root_group + 2)

abbrev pub minimised_from : ℕ
minimised_from = classes_from + class_limit

abbrev pub care_from : ℕ
care_from = minimised_from + 1

abbrev pub want_from : ℕ
want_from = care_from + place_limit

abbrev pub plan_words : ℕ
plan_words = want_from + place_limit

-- the set found, and the terms

abbrev pub found_in : List ℕ → ℕ
found_in p = get_or p 0 0

abbrev pub outs_in : List ℕ → ℕ
outs_in p = get_or p 1 0

abbrev pub ins_in : List ℕ → ℕ
ins_in p = get_or p 2 0

abbrev pub of_in : List ℕ → ℕ
of_in p = get_or p 3 0

abbrev pub budget_in : List ℕ → ℕ
budget_in p = get_or p 4 0

abbrev pub one_in : List ℕ → ℕ
one_in p = get_or p 5 0

-- the tables

abbrev pub starts_in : List ℕ → List ℕ
starts_in p = part starts_from (root_group + 2) p

abbrev pub classes_in : List ℕ → List ℕ
classes_in p = part classes_from class_limit p

-- the atoms of all classes
abbrev pub minimised_in : List ℕ → ℕ
minimised_in p = get_or p minimised_from 0

abbrev pub care_in : List ℕ → List ℕ
care_in p = part care_from place_limit p

abbrev pub want_in : List ℕ → List ℕ
want_in p = part want_from place_limit p

-- two plans that differ in no more than the set found
abbrev pub SameSearch : List ℕ → List ℕ → Type 0
SameSearch p q = drop 1 p ≡ drop 1 q

-- two plans with the same tables
abbrev pub SameTables : List ℕ → List ℕ → Type 0
SameTables p q = drop starts_from p ≡ drop starts_from q

-- a plan that has the atoms of all its classes, and of which the groups end within the places
pub record HasTables (p : List ℕ) : Type 0 where
  pub words : length p ≡ plan_words
  pub united : minimised_in p ≡ union_of (classes_in p)
  pub bounded : Bounded (starts_in p)
  pub paired : Paired (starts_in p)

-- the plan has these classes, and these rules' masks in groups
pub record Grouped (cs ws classes p : List ℕ) : Type 0 where
  pub words : length p ≡ plan_words
  pub classes_are : classes_in p ≡ classes
  pub groups : GroupsOf cs ws (care_in p) (want_in p) (starts_in p)

-- the plan's tables are these, and the atoms of all classes
pub record TablesOf (cs ws classes p : List ℕ) : Type 0 where
  pub words : length p ≡ plan_words
  pub classes_are : classes_in p ≡ classes
  pub united : minimised_in p ≡ union_of (classes_in p)
  pub groups : GroupsOf cs ws (care_in p) (want_in p) (starts_in p)
