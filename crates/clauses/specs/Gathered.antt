-- What clauses become: "Positive literals go to the head and negative ones to the body, in file order; a repeated literal counts once" (document 02, W-202).
use Rattle.std.specs.Prelude.{ℕ, suc, ◌+◌, Bool, cond, ◌&&◌, List, [], ◌∷◌, ◌++◌, length}
use Rattle.rules.specs.Lists.{sum, is_empty}
use Rattle.rules.specs.Rules.{Rule, rule, occurrences}
use Rattle.restriction.specs.Atoms.{is_member}
use Rattle.clauses.specs.Literals.{Literal, positive, negative}
use Rattle.clauses.specs.Tokens.{Token, literal, ends, wrong}

-- the rules of the clauses so far, and the two lists of the one that its 0 has not ended
pub record Gathered : Type 0 where
  pub rules : List (Rule ℕ)
  pub heads : List ℕ
  pub bodies : List ℕ

abbrev pub nothing : Gathered
nothing = record { rules = []; heads = []; bodies = [] }

-- an atom behind a list that lacks it
abbrev pub once : List ℕ → ℕ → List ℕ
once xs a = cond (is_member xs a) xs (xs ++ (a ∷ []))

abbrev pub with_literal : Gathered → Literal → Gathered
with_literal g (positive a) = record { rules = g.rules; heads = once g.heads a; bodies = g.bodies }
with_literal g (negative a) = record { rules = g.rules; heads = g.heads; bodies = once g.bodies a }

abbrev pub with_end : Gathered → Gathered
with_end g = record { rules = g.rules ++ (rule g.heads g.bodies [] ∷ []); heads = []; bodies = [] }

abbrev pub with_token : Gathered → Token → Gathered
with_token g (literal l) = with_literal g l
with_token g ends = with_end g
with_token g wrong = g

abbrev pub with_tokens : Gathered → List Token → Gathered
with_tokens g [] = g
with_tokens g (t ∷ ts) = with_tokens (with_token g t) ts

-- no clause has begun that its 0 has not ended
abbrev pub is_closed : Gathered → Bool
is_closed g = is_empty g.heads && is_empty g.bodies

-- the clauses that have begun
abbrev pub begun : Gathered → ℕ
begun g = cond (is_closed g) (length g.rules) (suc (length g.rules))

-- atom occurrences
abbrev pub occurrences_in : Gathered → ℕ
occurrences_in g = sum occurrences g.rules + (length g.heads + length g.bodies)
