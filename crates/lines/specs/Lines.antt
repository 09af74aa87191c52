-- The lines of a text, each with its end, byte 10; the last one may lack it.
use Rattle.std.specs.Prelude.{ℕ, zero, suc, Bool, false, cond, List, [], ◌∷◌, eqb, take}
use Rattle.kinds.specs.Words.{line_end_lem}
use Rattle.rules.specs.Lists.{is_empty}

-- the length of the first line, its end included
unfoldable pub line_length : List ℕ → ℕ
line_length [] = 0
line_length (b ∷ s) = suc (cond (eqb b line_end_lem) 0 (line_length s))

-- the lines after k bytes that are passed over
unfoldable pub lines_from : ℕ → List ℕ → List (List ℕ)
lines_from k [] = []
lines_from zero (b ∷ s) = take (line_length (b ∷ s)) (b ∷ s) ∷ lines_from (cond (eqb b line_end_lem) 0 (line_length s)) s
lines_from (suc k) (b ∷ s) = lines_from k s

unfoldable pub lines : List ℕ → List (List ℕ)
lines s = lines_from 0 s

-- byte 10 is its last
abbrev pub is_ended : List ℕ → Bool
is_ended [] = false
is_ended (b ∷ s) = cond (is_empty s) (eqb b line_end_lem) (is_ended s)
