-- Strict text: "one space between items, no other spacing" (document 01, "The two kinds of file"), nothing but forms. "Only strict text still comes back from the writer unaltered" (document 02, W-205).
use Rattle.std.specs.Prelude.{ℕ, ◌≡◌, List, [], ◌∷◌, ◌++◌}
use Rattle.kinds.specs.Words.{space, open_bracket, close_bracket, line_end_lem}
use Rattle.rules.specs.Lists.{flat}
use Rattle.lines.specs.Lines.{lines}
use Rattle.lines.specs.Tokens.{Token, opening, closing, word, tokens}

abbrev pub token_bytes : Token → List ℕ
token_bytes opening = open_bracket ∷ []
token_bytes closing = close_bracket ∷ []
token_bytes (word x) = x

-- a space between two tokens, but not behind an opening bracket nor before a closing one
abbrev pub spacing : Token → List Token → List ℕ
spacing t [] = []
spacing t (closing ∷ ts) = []
spacing opening (opening ∷ ts) = []
spacing closing (opening ∷ ts) = space ∷ []
spacing (word x) (opening ∷ ts) = space ∷ []
spacing opening (word y ∷ ts) = []
spacing closing (word y ∷ ts) = space ∷ []
spacing (word x) (word y ∷ ts) = space ∷ []

unfoldable pub spelled : List Token → List ℕ
spelled [] = []
spelled (t ∷ ts) = token_bytes t ++ (spacing t ts ++ spelled ts)

abbrev pub strict_line : List Token → List ℕ
strict_line [] = []
strict_line (t ∷ ts) = spelled (t ∷ ts) ++ (line_end_lem ∷ [])

-- the text that the same brackets and words give
unfoldable pub strict_text : List ℕ → List ℕ
strict_text text = flat (λ l. strict_line (tokens l)) (lines text)

abbrev pub Strict : List ℕ → Type 0
Strict text = strict_text text ≡ text
