-- The connectives of a condition as a table with a row for each, in file order: a reader can fill it as it goes and write it out afterwards.
use Rattle.std.specs.Prelude.{ℕ, List, [], ◌∷◌, ◌++◌, cond}
use Rattle.rules.specs.Rules.{Rule}
use Rattle.conditions.specs.Conditions.{Atom, made, Cond, name, NOT, AND, OR}
use Rattle.conditions.specs.Written.{is_same, part, and_rules, or_rules, not_rules}

-- a connective's T and the atoms of its parts
pub data Row : Type 0 where
  not_row : ℕ → Atom → Row
  and-row or-row : ℕ → Atom → Atom → Row

-- the rows in file order
unfoldable pub rows : Cond → List Row
rows (name a) = []
rows (NOT t c) = not_row t (part c) ∷ rows c
rows (AND l t r) = rows l ++ (and-row t (part l) (part r) ∷ rows r)
rows (OR l t r) = rows l ++ (or-row t (part l) (part r) ∷ rows r)

-- the rules of a row's connective
abbrev pub row_rules : Row → List (Rule Atom)
row_rules (not_row t c) = not_rules (made t) c
row_rules (and-row t l r) = and_rules (made t) l r
row_rules (or-row t l r) = or_rules (made t) l r

-- their atom occurrences: one fewer where both parts are one atom
abbrev pub row_occurrences : Row → ℕ
row_occurrences (not_row t c) = 4
row_occurrences (and-row t l r) = cond (is_same l r) 6 7
row_occurrences (or-row t l r) = cond (is_same l r) 6 7

-- a row's T
abbrev pub row_atom : Row → ℕ
row_atom (not_row t c) = t
row_atom (and-row t l r) = t
row_atom (or-row t l r) = t
