-- The rules that are written for a condition, in the request's words and order (document 02, W-208).
use Rattle.std.specs.Prelude.{ℕ, List, [], ◌∷◌, ◌++◌, Bool, false, not, eqb}
use Rattle.rules.specs.Lists.{keep, flat}
use Rattle.rules.specs.Rules.{Rule, rule, rename}
use Rattle.conditions.specs.Conditions.{Atom, planner, made, Cond, name, NOT, AND, OR, Statement, states, when}

-- whether two atoms are one
abbrev pub is_same : Atom → Atom → Bool
is_same (planner a) (planner b) = eqb a b
is_same (planner a) (made b) = false
is_same (made a) (planner b) = false
is_same (made a) (made b) = eqb a b

-- "left stands first, an atom once in a list"
unfoldable pub once : Atom → Atom → List Atom
once l r = l ∷ keep (not (is_same l r)) r []

-- the atom of a part: the name's own, or the T of its connective
abbrev pub part : Cond → Atom
part (name a) = planner a
part (NOT t c) = made t
part (AND l t r) = made t
part (OR l t r) = made t

-- "for `and`, T if both parts, then each part if T"
abbrev pub and_rules : Atom → Atom → Atom → List (Rule Atom)
and_rules t l r = rule (t ∷ []) (once l r) [] ∷ rule (l ∷ []) (t ∷ []) [] ∷ rule (r ∷ []) (t ∷ []) [] ∷ []

-- "for `or`, either part if T, then T if each part"
abbrev pub or_rules : Atom → Atom → Atom → List (Rule Atom)
or_rules t l r = rule (once l r) (t ∷ []) [] ∷ rule (t ∷ []) (l ∷ []) [] ∷ rule (t ∷ []) (r ∷ []) [] ∷ []

-- "for `not`, T or its part, then no head if T and its part"
abbrev pub not_rules : Atom → Atom → List (Rule Atom)
not_rules t c = rule (t ∷ c ∷ []) [] [] ∷ rule [] (t ∷ c ∷ []) [] ∷ []

-- the rules of a condition's connectives, in file order
unfoldable pub connective_rules : Cond → List (Rule Atom)
connective_rules (name a) = []
connective_rules (NOT t c) = not_rules (made t) (part c) ++ connective_rules c
connective_rules (AND l t r) = connective_rules l ++ (and_rules (made t) (part l) (part r) ++ connective_rules r)
connective_rules (OR l t r) = connective_rules l ++ (or_rules (made t) (part l) (part r) ++ connective_rules r)

-- `a` if COND
abbrev pub then_rule : Cond → ℕ → Rule Atom
then_rule c a = rule (planner a ∷ []) (part c ∷ []) []

-- what a line writes: a rule itself; in a condition's place its connectives' rules, and "the last rule is `a` if COND"
abbrev pub statement_rules : Statement → List (Rule Atom)
statement_rules (states r) = rename planner r ∷ []
statement_rules (when c a) = connective_rules c ++ (then_rule c a ∷ [])

-- the written program's rules
abbrev pub written : List Statement → List (Rule Atom)
written ls = flat statement_rules ls
