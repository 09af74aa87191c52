-- The atoms that stand in some rule, and a list of atoms in which each has its place (document 02, W-203).
use Rattle.std.specs.Prelude.{ℕ, suc, Bool, cond, List, [], ◌∷◌, ◌++◌, map, eqb, get_or}
use Rattle.rules.specs.Lists.{some, filter, from}
use Rattle.rules.specs.Rules.{Rule, rename}

abbrev pub is_member : List ℕ → ℕ → Bool
is_member xs a = some (eqb a) xs

-- the atoms of a rule
abbrev pub atoms_of : Rule ℕ → List ℕ
atoms_of r = r.head ++ (r.body ++ r.nots)

-- atom a stands in some rule
abbrev pub is_used : List (Rule ℕ) → ℕ → Bool
is_used rs a = some (λ r. is_member (atoms_of r) a) rs

-- the atoms below n that do, in sequence
unfoldable pub used : ℕ → List (Rule ℕ) → List ℕ
used n rs = filter (is_used rs) (from 0 n)

-- an atom's place in a list: how many stand before it
abbrev pub place_in : List ℕ → ℕ → ℕ
place_in [] a = 0
place_in (x ∷ xs) a = cond (eqb a x) 0 (suc (place_in xs a))

-- the rules with each atom by its place
abbrev pub renumbered : List ℕ → List (Rule ℕ) → List (Rule ℕ)
renumbered xs rs = map (rename (place_in xs)) rs

-- what a list has for each of the atoms
abbrev pub entries : {A : Type 0} → A → List A → List ℕ → List A
entries d l xs = map (λ a. get_or l a d) xs
