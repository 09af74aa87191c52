-- A decimal number of any length, without leading zero.
use Rattle.std.specs.Prelude.{ℕ, ◌+◌, ◌-◌, ◌*◌, Bool, false, not, ◌&&◌, ◌||◌, List, [], ◌∷◌, ◌≡◌, ◌≢◌, leb, eqb, length}
use Rattle.kinds.specs.Words.{byte, digits}
use Rattle.rules.specs.Lists.{every, is_empty}

abbrev pub is_digit : ℕ → Bool
is_digit b = leb (byte "0") b && leb b (byte "9")

-- digits, of which the first is no zero unless it is alone
abbrev pub is_numeral : List ℕ → Bool
is_numeral [] = false
is_numeral (b ∷ s) = every is_digit (b ∷ s) && (not (eqb b (byte "0")) || is_empty s)

-- what digits say that follow the number v
abbrev pub value_from : ℕ → List ℕ → ℕ
value_from v [] = v
value_from v (b ∷ s) = value_from (10 * v + (b - byte "0")) s

unfoldable pub value : List ℕ → ℕ
value x = value_from 0 x

-- not empty, and what the number that it says is written as
abbrev pub DecimalWriting : List ℕ → Type 0
DecimalWriting x = (x ≢ []) × (x ≡ digits (length x) (value x))
