-- The bytes that the two kinds of file are written with.
use Rattle.std.specs.Prelude.{ℕ, zero, suc, ◌+◌, ◌/◌, ◌%◌, List, [], ◌∷◌, ◌++◌, cond, ltb}
use Prim.Native.Char.{code}
use Prim.Native.String.{String, [] as empty, ◌∷◌ as ◌then◌}

-- the bytes of a quoted text
abbrev pub bytes : String → List ℕ
bytes empty = []
bytes (c then s) = code c ∷ bytes s

-- a byte by its character
abbrev pub byte : String → ℕ
byte empty = 0
byte (c then s) = code c

abbrev pub space : ℕ
space = byte " "

abbrev pub open_bracket : ℕ
open_bracket = byte "("

abbrev pub close_bracket : ℕ
close_bracket = byte ")"

abbrev pub line_end_lem : ℕ
line_end_lem = byte "\n"

-- a comment goes from here to the line's end (document 02, W-205)
abbrev pub comment_mark : ℕ
comment_mark = byte ";"

abbrev pub atoms_word : List ℕ
atoms_word = bytes "atoms"

abbrev pub min_word : List ℕ
min_word = bytes "min"

abbrev pub vary_word : List ℕ
vary_word = bytes "vary"

abbrev pub fix_word : List ℕ
fix_word = bytes "fix"

abbrev pub rule_word : List ℕ
rule_word = bytes "rule"

abbrev pub head_word : List ℕ
head_word = bytes "head"

abbrev pub body_word : List ℕ
body_word = bytes "body"

abbrev pub not_word : List ℕ
not_word = bytes "not"

-- the words of a condition, beside `not` (document 02, W-208)
abbrev pub and_word : List ℕ
and_word = bytes "and"

abbrev pub or_word : List ℕ
or_word = bytes "or"

-- the words of its line
abbrev pub when_word : List ℕ
when_word = bytes "when"

abbrev pub then_word : List ℕ
then_word = bytes "then"

-- a number in decimal digits, at most f of them
unfoldable pub digits : ℕ → ℕ → List ℕ
digits zero x = []
digits (suc f) x = cond (ltb x 10) ((byte "0" + x) ∷ []) (digits f (x / 10) ++ ((byte "0" + x % 10) ∷ []))

-- a number below 2^64 has at most 20 digits
abbrev pub decimal : ℕ → List ℕ
decimal x = digits 20 x
