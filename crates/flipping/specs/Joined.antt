-- Two rising lists of rule numbers joined.
use Rattle.std.specs.Prelude.{ℕ, Bool, false, cond, List, [], ◌∷◌, eqb}
use Rattle.rules.specs.Rules.{Rule}
use Rattle.restriction.specs.Atoms.{is_member}
use Rattle.rule_index.specs.Index.{numbers_of}
use Rattle.rule_index.specs.Flip.{is_broken}

-- an own rule is kept where the set breaks it, any other where the list has it
abbrev pub is_kept : List ℕ → List ℕ → ℕ → ℕ → Rule ℕ → Bool
is_kept list own x i r = cond (is_member own i) (is_broken x r) (is_member list i)

unfoldable pub joined : List (Rule ℕ) → List ℕ → List ℕ → ℕ → List ℕ
joined rs list own x = numbers_of (is_kept list own x) 0 rs

-- the rule is the first of the list
abbrev pub is_leading : ℕ → List ℕ → Bool
is_leading m [] = false
is_leading m (x ∷ xs) = eqb m x

-- the list without the rule, where it is the first
abbrev pub behind : ℕ → List ℕ → List ℕ
behind m [] = []
behind m (x ∷ xs) = cond (eqb m x) xs (x ∷ xs)
