-- The lines that the two programs print (document 01, "Sheets of known states").
use Rattle.std.specs.Prelude.{ℕ, cond, List, [], ◌∷◌, ◌++◌, leb, length}
use Rattle.kinds.specs.Refusals.{refusal_number}
use Rattle.kinds.specs.declared.refusals.Refusal.{Refusal}
use Rattle.rules.specs.Lists.{filter, from}
use Rattle.rules.specs.Sets.{has}
use Rattle.kinds.specs.Words.{space, close_bracket, line_end_lem, decimal, bytes}
use Rattle.text.specs.Text.{list_line, named}

abbrev pub closing : List ℕ
closing = close_bracket ∷ line_end_lem ∷ []

-- `(refused NUMBER LINE)`
unfoldable pub refused_text : Refusal → ℕ → List ℕ
refused_text f line = bytes "(refused " ++ (decimal (refusal_number f) ++ (space ∷ (decimal line ++ closing)))

abbrev pub state_word : List ℕ
state_word = bytes "state"

-- `(state a b)`: the state's atoms in declared order
unfoldable pub state_line : List (List ℕ) → ℕ → List ℕ
state_line names s = list_line state_word (named names (filter (has s) (from 0 (length names))))

-- `(total N)`
unfoldable pub total_line : ℕ → List ℕ
total_line c = bytes "(total " ++ (decimal c ++ closing)

-- `(spent)`
abbrev pub spent_line : List ℕ
spent_line = bytes "(spent)\n"

-- what is written of a text into a lent output: all of it where it has room, else nothing
unfoldable pub shown : List ℕ → List ℕ → List ℕ
shown text before = cond (leb (length text) (length before)) text []
