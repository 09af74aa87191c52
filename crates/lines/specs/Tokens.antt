-- Brackets and words: a line is cut at its first `;`, "runs of spaces (at line starts and ends and inside brackets too; none is needed beside a bracket)" have no other meaning (document 02, W-205).
use Rattle.std.specs.Prelude.{ℕ, zero, suc, Bool, cond, ◌||◌, List, [], ◌∷◌, eqb, take}
use Rattle.kinds.specs.Words.{space, open_bracket, close_bracket, line_end_lem, comment_mark}

pub data Token : Type 0 where
  opening closing : Token
  word : List ℕ → Token

-- a byte behind which nothing counts
abbrev pub is_ending : ℕ → Bool
is_ending b = eqb b comment_mark || eqb b line_end_lem

-- a byte that ends a word
abbrev pub is_delimiter : ℕ → Bool
is_delimiter b = eqb b space || (eqb b open_bracket || (eqb b close_bracket || is_ending b))

-- how many bytes stand before the first delimiter
unfoldable pub run : List ℕ → ℕ
run [] = 0
run (b ∷ s) = cond (is_delimiter b) 0 (suc (run s))

-- the tokens after k bytes that are passed over
unfoldable pub tokens_from : ℕ → List ℕ → List Token
tokens_from k [] = []
tokens_from zero (b ∷ s) =
    cond (is_ending b) []
    (cond (eqb b space) (tokens_from 0 s)
    (cond (eqb b open_bracket) (opening ∷ tokens_from 0 s)
    (cond (eqb b close_bracket) (closing ∷ tokens_from 0 s) (word (b ∷ take (run s) s) ∷ tokens_from (run s) s))))
tokens_from (suc k) (b ∷ s) = tokens_from k s

unfoldable pub tokens : List ℕ → List Token
tokens s = tokens_from 0 s

-- the words at the front, and what stands behind them
abbrev pub leading : List Token → List (List ℕ)
leading [] = []
leading (opening ∷ ts) = []
leading (closing ∷ ts) = []
leading (word x ∷ ts) = x ∷ leading ts

abbrev pub behind : List Token → List Token
behind [] = []
behind (opening ∷ ts) = opening ∷ ts
behind (closing ∷ ts) = closing ∷ ts
behind (word x ∷ ts) = behind ts

-- the words at the front of the bytes
unfoldable pub items : List ℕ → List (List ℕ)
items s = leading (tokens s)
