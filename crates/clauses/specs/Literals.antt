-- Literals, clauses and the sets that satisfy them. Atoms count from 0, as in a store: atom a is the clause file's a + 1.
use Rattle.std.specs.Prelude.{ℕ, Bool, true, false, List}
use Rattle.rules.specs.Lists.{All, Any}
use Rattle.rules.specs.Sets.{In, Out}

pub data Literal : Type 0 where
  positive : ℕ → Literal
  negative : ℕ → Literal

abbrev pub signed : Bool → ℕ → Literal
signed true a = positive a
signed false a = negative a

abbrev pub atom_of : Literal → ℕ
atom_of (positive a) = a
atom_of (negative a) = a

-- a literal is true in a set
abbrev pub True : (ℕ → Bool) → Literal → Type 0
True m (positive a) = In m a
True m (negative a) = Out m a

-- a clause is satisfied where one of its literals is true
abbrev pub Satisfies : (ℕ → Bool) → List (List Literal) → Type 0
Satisfies m cs = All (λ c. Any (True m) c) cs
