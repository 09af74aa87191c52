-- The index of a program's rules: for each atom a count, then the rising list of rules that hold it (document 02, W-209).
use Rattle.std.specs.Prelude.{ℕ, suc, Bool, List, [], ◌∷◌, length}
use Rattle.rules.specs.Lists.{keep, flat, from}
use Rattle.rules.specs.Rules.{Rule}
use Rattle.stores.specs.Program.{Program}
use Rattle.restriction.specs.Atoms.{is_member, atoms_of}

-- the numbers of the rules that pass a test, the first rule being number s
abbrev pub numbers_of : (ℕ → Rule ℕ → Bool) → ℕ → List (Rule ℕ) → List ℕ
numbers_of t s [] = []
numbers_of t s (r ∷ rs) = keep (t s r) s (numbers_of t (suc s) rs)

-- the rule holds the atom in any of its three lists
abbrev pub is_standing : ℕ → Rule ℕ → Bool
is_standing a r = is_member (atoms_of r) a

unfoldable pub rules_with : ℕ → List (Rule ℕ) → List ℕ
rules_with a rs = numbers_of (λ i r. is_standing a r) 0 rs

abbrev pub counted : List ℕ → List ℕ
counted xs = length xs ∷ xs

unfoldable pub index : ℕ → List (Rule ℕ) → List ℕ
index n rs = flat (λ a. counted (rules_with a rs)) (from 0 n)

abbrev pub index_of : Program → List ℕ
index_of p = index p.atoms p.rules
