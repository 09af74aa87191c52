-- Each T atom with the truth of the condition that its connective makes.
use Prim.Native.Nat.{ℕ}
use mathlib.Core.Path.{◌≡◌}
use mathlib.Core.List.{List, [], ◌∷◌, ◌++◌}
use mathlib.Core.Bool.{Bool}
use Rattle.rules.specs.Lists.{All, flat}
use Rattle.conditions.specs.Conditions.{Atom, made, Cond, name, NOT, AND, OR, Statement, states, when, truth}
use Rattle.conditions.specs.Readings.{cut_down}

unfoldable pub values : (ℕ → Bool) → Cond → List (ℕ × Bool)
values m (name a) = []
values m (NOT t c) = (t, truth m (NOT t c)) ∷ values m c
values m (AND l t r) = values m l ++ ((t, truth m (AND l t r)) ∷ values m r)
values m (OR l t r) = values m l ++ ((t, truth m (OR l t r)) ∷ values m r)

abbrev pub statement_values : (ℕ → Bool) → Statement → List (ℕ × Bool)
statement_values m (states r) = []
statement_values m (when c a) = values m c

-- T has the value b in x
abbrev pub Has : (Atom → Bool) → ℕ × Bool → Type 0
Has x v = x (made v.0) ≡ v.1

-- each T is its condition's truth in the cut
abbrev pub Valued : (Atom → Bool) → List Statement → Type 0
Valued x ls = All (Has x) (flat (statement_values (cut_down x)) ls)
