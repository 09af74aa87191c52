-- Conditions as planners speak: their truth, read directly, and the T atoms that their connectives get (document 02, W-208).
use Rattle.std.specs.Prelude.{ℕ, suc, ◌+◌, ◌≡◌, List, [], ◌∷◌, ◌++◌, Bool, not, ◌&&◌, ◌||◌, length}
use Rattle.rules.specs.Lists.{flat, from}
use Rattle.rules.specs.Rules.{Rule}
use Rattle.restriction.specs.Atoms.{atoms_of}

-- an atom of the planner's, by its number in the file; a T atom that a connective made, by the number in its name
pub data Atom : Type 0 where
  planner made : ℕ → Atom

-- COND: a name, by its atom; or parts joined by `not`, `and`, `or`, each word with its T's number, where it stands in the text
pub data Cond : Type 0 where
  name : ℕ → Cond
  NOT : ℕ → Cond → Cond
  AND OR : Cond → ℕ → Cond → Cond

-- what stands on a line among a preference file's rules: a rule, or `(when COND (then a))`
pub data Statement : Type 0 where
  states : Rule ℕ → Statement
  when : Cond → ℕ → Statement

-- the condition evaluated as and, or, not, in a set of the planner's atoms
unfoldable pub truth : (ℕ → Bool) → Cond → Bool
truth m (name a) = m a
truth m (NOT t c) = not (truth m c)
truth m (AND l t r) = truth m l && truth m r
truth m (OR l t r) = truth m l || truth m r

-- the T atoms of a condition, in file order
unfoldable pub connectives : Cond → List ℕ
connectives (name a) = []
connectives (NOT t c) = t ∷ connectives c
connectives (AND l t r) = connectives l ++ (t ∷ connectives r)
connectives (OR l t r) = connectives l ++ (t ∷ connectives r)

-- a rule makes none
abbrev pub statement_connectives : Statement → List ℕ
statement_connectives (states r) = []
statement_connectives (when c a) = connectives c

-- the T atoms of a file, in file order
abbrev pub made_atoms : List Statement → List ℕ
made_atoms ls = flat statement_connectives ls

-- "each connective, in file order, gets .. a number from 1"
abbrev pub Numbered : List Statement → Type 0
Numbered ls = made_atoms ls ≡ from 1 (length (made_atoms ls))

-- the same as a function: the connectives of c, whatever numbers they have, numbered along from k
unfoldable pub number_from : ℕ → Cond → Cond
number_from k (name a) = name a
number_from k (NOT t c) = NOT k (number_from (suc k) c)
number_from k (AND l t r) = AND (number_from k l) (k + length (connectives l)) (number_from (suc (k + length (connectives l))) r)
number_from k (OR l t r) = OR (number_from k l) (k + length (connectives l)) (number_from (suc (k + length (connectives l))) r)

-- through the whole file
unfoldable pub number_statements : ℕ → List Statement → List Statement
number_statements k [] = []
number_statements k (states r ∷ ls) = states r ∷ number_statements k ls
number_statements k (when c a ∷ ls) = when (number_from k c) a ∷ number_statements (k + length (connectives c)) ls

-- the planner's atoms that a condition names
unfoldable pub names_of : Cond → List ℕ
names_of (name a) = a ∷ []
names_of (NOT t c) = names_of c
names_of (AND l t r) = names_of l ++ names_of r
names_of (OR l t r) = names_of l ++ names_of r

-- the planner's atoms that stand in a rule or a condition
abbrev pub statement_names : Statement → List ℕ
statement_names (states r) = atoms_of r
statement_names (when c a) = names_of c ++ (a ∷ [])
