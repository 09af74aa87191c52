-- What an item is among clauses: a literal, the 0 that ends a clause, or something wrong; "a number has no plus, leading zero or `-0`" (document 02, W-202).
use Rattle.std.specs.Prelude.{ℕ, zero, suc, Bool, true, false, cond, List, [], ◌∷◌, ◌++◌, map, eqb, leb}
use Rattle.kinds.specs.Words.{byte}
use Rattle.names.specs.Numerals.{is_numeral, value}
use Rattle.clauses.specs.Items.{items}
use Rattle.clauses.specs.Literals.{Literal, positive, negative, atom_of}

pub data Token : Type 0 where
  literal : Literal → Token
  ends : Token
  wrong : Token

-- a number, by what 0 is and whose literal another number is
abbrev pub valued : Token → (ℕ → Literal) → ℕ → Token
valued none sign zero = none
valued none sign (suc a) = literal (sign a)

abbrev pub numbered : Token → (ℕ → Literal) → List ℕ → Token
numbered none sign x = cond (is_numeral x) (valued none sign (value x)) wrong

unfoldable pub token_of : List ℕ → Token
token_of [] = wrong
token_of (b ∷ s) = cond (eqb b (byte "-")) (numbered wrong negative s) (numbered ends positive (b ∷ s))

abbrev pub is_wrong : Token → Bool
is_wrong (literal l) = false
is_wrong ends = false
is_wrong wrong = true

-- "literal beyond the header's atoms"
abbrev pub is_beyond : ℕ → Token → Bool
is_beyond n (literal l) = leb n (atom_of l)
is_beyond n ends = false
is_beyond n wrong = false

abbrev pub line_tokens : List ℕ → List Token
line_tokens l = map token_of (items l)

-- the clauses of a row of tokens, each up to its 0, after the literals of one that has begun
unfoldable pub clauses_from : List Literal → List Token → List (List Literal)
clauses_from c [] = []
clauses_from c (literal l ∷ ts) = clauses_from (c ++ (l ∷ [])) ts
clauses_from c (ends ∷ ts) = c ∷ clauses_from [] ts
clauses_from c (wrong ∷ ts) = clauses_from c ts
