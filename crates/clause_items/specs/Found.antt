-- What the code finds at a place of a line of a clause file.
use Rattle.std.specs.Prelude.{ℕ, suc, ◌+◌, ◌≤◌, ◌<◌, ◌≡◌, true, false, cond, List, [], ◌∷◌, ltb, length, take, drop, Option, Some, None, Result, Ok, Err}
use Rattle.std.specs.List.{prefix_len}
use Rattle.kinds.specs.declared.refusals.Refusal.{Refusal}
use Rattle.kinds.specs.declared.refusals.Refusal.TheVariants.{BrokenClauses}
use Rattle.rules.specs.Lists.{some}
use Rattle.names.specs.Numerals.{is_numeral, value}
use Rattle.clauses.specs.Items.{is_separator, run}
use Rattle.clauses.specs.Literals.{positive, negative, signed}
use Rattle.clauses.specs.Tokens.{Token, literal, ends, wrong, token_of, is_wrong, line_tokens}
use Rattle.clauses.specs.Gathered.{nothing}
use Rattle.clauses.specs.Faults.{headed, Step, next, fault, header_with}
use Rattle.clause_items.specs.declared.numbers.Number.{Number}
use Rattle.clause_items.specs.declared.items.Item.{Item}
use Rattle.clause_items.specs.declared.header.Header.{Header}

-- past every limit: "Numbers may be longer than any word"
abbrev pub largest : ℕ
largest = 65535

abbrev pub capped : ℕ → ℕ
capped v = cond (ltb v largest) v largest

-- how many separators stand at the front
abbrev pub gap : List ℕ → ℕ
gap s = prefix_len is_separator s

-- the bytes before the first separator
abbrev pub front : List ℕ → List ℕ
front s = take (run s) s

-- a number that was found, which says v and ends before `to`
abbrev pub found : ℕ → ℕ → Option Number
found v to = Some (record { value = v; to = to })

unfoldable pub number_at : ℕ → List ℕ → Option Number
number_at at s = cond (is_numeral (front s)) (found (capped (value (front s))) (at + run s)) None

abbrev pub token_item : Token → ℕ → Item
token_item (literal (positive a)) to = Item.Literal true (capped (suc a)) to
token_item (literal (negative a)) to = Item.Literal false (capped (suc a)) to
token_item ends to = Item.Ends to
token_item wrong to = Item.Broken

abbrev pub item_here : ℕ → List ℕ → Item
item_here at [] = Item.Stop
item_here at (b ∷ s) = token_item (token_of (front (b ∷ s))) (at + run (b ∷ s))

-- the item behind the separators at the front
unfoldable pub item_at : ℕ → List ℕ → Item
item_at at s = item_here (at + gap s) (drop (gap s) s)

-- the token t stands first among those from `at` on, and ends before `to`
pub record TokenAt (line : List ℕ) (at : ℕ) (t : Token) (to : ℕ) : Type 0 where
  pub tokens : line_tokens (drop at line) ≡ t ∷ line_tokens (drop to line)
  pub further : at < to
  pub inside : to ≤ length line

-- what an item says of the tokens from `at` on
abbrev pub ItemSays : List ℕ → ℕ → Item → Type 0
ItemSays line at Item.Stop = line_tokens (drop at line) ≡ []
ItemSays line at Item.Broken = some is_wrong (line_tokens (drop at line)) ≡ true
ItemSays line at (Item.Ends to) = TokenAt line at ends to
ItemSays line at (Item.Literal p number to) = (a : ℕ) × (number ≡ capped (suc a)) × TokenAt line at (literal (signed p a)) to

-- the step that a header's numbers make, and that a broken header does
abbrev pub numbers_step : Option Header → Step
numbers_step (Some h) = header_with h.atoms h.clauses
numbers_step None = fault BrokenClauses

-- the step that a header makes
abbrev pub header_step : Result Header Refusal → Step
header_step (Ok h) = next (headed h.atoms h.clauses nothing)
header_step (Err r) = fault r
