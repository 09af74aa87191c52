-- The items of a line of a clause file: what stands between runs of spaces; byte 10 ends the line (document 02, W-202).
use Rattle.std.specs.Prelude.{ℕ, zero, suc, Bool, false, cond, ◌||◌, List, [], ◌∷◌, eqb, take}
use Rattle.kinds.specs.Words.{byte, space, line_end_lem}

abbrev pub is_separator : ℕ → Bool
is_separator b = eqb b space || eqb b line_end_lem

-- how many bytes stand before the first separator
unfoldable pub run : List ℕ → ℕ
run [] = 0
run (b ∷ s) = cond (is_separator b) 0 (suc (run s))

-- the items after k bytes that are passed over
unfoldable pub items_from : ℕ → List ℕ → List (List ℕ)
items_from k [] = []
items_from zero (b ∷ s) = cond (is_separator b) (items_from 0 s) (take (suc (run s)) (b ∷ s) ∷ items_from (run s) s)
items_from (suc k) (b ∷ s) = items_from k s

unfoldable pub items : List ℕ → List (List ℕ)
items l = items_from 0 l

-- "comment lines starting `c`"
abbrev pub is_comment : List ℕ → Bool
is_comment [] = false
is_comment (b ∷ s) = eqb b (byte "c")
