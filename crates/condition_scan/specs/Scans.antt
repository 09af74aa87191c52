-- With brackets that pair, whether tokens are a condition is told by whether a part or a connective must come next (document 02, W-208).
use Rattle.std.specs.Prelude.{ℕ, ◌+◌, ◌-◌, ◌^◌, ◌≤◌, ◌<◌, ◌≡◌, Bool, true, false, cond, not, List, [], ◌∷◌, ltb, length, drop, Option, Some, None}
use Rattle.kinds.specs.Limits.{bracket_limit}
use Rattle.name_store.specs.NameStore.{among}
use Rattle.conditions.specs.Conditions.{Cond}
use Rattle.lines.specs.Tokens.{Token, opening, closing, word, tokens}
use Rattle.lines.specs.Conditions.{WordSort, sort_of, by_sort, names_in, connectives_in, deeper, parsed, unparsed, parse}
use Rattle.numbering.specs.Numbers.{undeclared}
use Rattle.condition_scan.specs.declared.scan.Symbol.{Symbol}
use Rattle.condition_scan.specs.declared.scan.Step.{Step}
use Rattle.condition_scan.specs.declared.scan.Seen.{Seen}
use Rattle.condition_scan.specs.declared.scan.Scan.{Scan}

-- parts and connectives take turns: true while a part must come next
unfoldable pub is_scan : Bool → List Token → Bool
is_scan true [] = false
is_scan true (opening ∷ ts) = is_scan true ts
is_scan true (closing ∷ ts) = false
is_scan true (word x ∷ ts) = by_sort (sort_of x) (is_scan true ts) false false (is_scan false ts)
is_scan false [] = true
is_scan false (opening ∷ ts) = false
is_scan false (closing ∷ ts) = is_scan false ts
is_scan false (word x ∷ ts) = by_sort (sort_of x) false (is_scan true ts) (is_scan true ts) false

-- a word's symbol, by what it is and whether it is declared
abbrev pub symbol_by : WordSort → Bool → Symbol
symbol_by sort declared = by_sort sort Symbol.Negation Symbol.Joint Symbol.Joint (cond declared Symbol.Declared Symbol.Undeclared)

abbrev pub word_symbol : List (List ℕ) → List ℕ → Symbol
word_symbol names x = symbol_by (sort_of x) (among names x)

abbrev pub symbol_of : List (List ℕ) → Token → Symbol
symbol_of names opening = Symbol.Opening
symbol_of names closing = Symbol.Closing
symbol_of names (word x) = word_symbol names x

-- the token at a place, up to another
pub record TokenTo (names : List (List ℕ)) (s : List ℕ) (at to : ℕ) (symbol : Symbol) : Type 0 where
  pub token : Token
  pub onward : at < to
  pub inside : to ≤ length s
  pub is : tokens (drop at s) ≡ token ∷ tokens (drop to s)
  pub is_symbol : symbol ≡ symbol_of names token

abbrev pub StepSays : List (List ℕ) → List ℕ → ℕ → Option Step → Type 0
StepSays names s at (Some t) = TokenTo names s at t.to t.symbol
StepSays names s at None = tokens (drop at s) ≡ []

pub record StepIs (names : List (List ℕ)) (s : List ℕ) (at : ℕ) (r : Option Step) : Type 0 where
  pub says : StepSays names s at r

abbrev pub is_fitting : Symbol → Bool → Bool
is_fitting Symbol.Opening part = part
is_fitting Symbol.Closing part = not part
is_fitting Symbol.Negation part = part
is_fitting Symbol.Joint part = not part
is_fitting Symbol.Declared part = part
is_fitting Symbol.Undeclared part = part

abbrev pub after_of : Seen → Symbol → Seen
after_of st Symbol.Opening = record { part = st.part; depth = st.depth + 1; deep = cond (ltb bracket_limit (st.depth + 1)) true st.deep; connectives = st.connectives; undeclared = st.undeclared }
after_of st Symbol.Closing = record { part = st.part; depth = st.depth - 1; deep = st.deep; connectives = st.connectives; undeclared = st.undeclared }
after_of st Symbol.Negation = record { part = st.part; depth = st.depth; deep = st.deep; connectives = st.connectives + 1; undeclared = st.undeclared }
after_of st Symbol.Joint = record { part = true; depth = st.depth; deep = st.deep; connectives = st.connectives + 1; undeclared = st.undeclared }
after_of st Symbol.Declared = record { part = false; depth = st.depth; deep = st.deep; connectives = st.connectives; undeclared = st.undeclared }
after_of st Symbol.Undeclared = record { part = false; depth = st.depth; deep = st.deep; connectives = st.connectives; undeclared = true }

-- no bracket closes that is not open, and the counts fit their words
pub record Countable (st : Seen) (symbol : Symbol) : Type 0 where
  pub opened : symbol ≡ Symbol.Closing → 1 ≤ st.depth
  pub few_open : st.depth + 1 < 2 ^ 64
  pub few : st.connectives + 1 < 2 ^ 64

-- what the answer says of tokens with brackets that pair, however names and connectives are numbered
pub record Scanned (names : List (List ℕ)) (ts : List Token) (deep : Bool) (connectives : ℕ) (missing : Bool) : Type 0 where
  pub is_condition : (numbers : List ℕ → ℕ) (t : ℕ) → (c : Cond) × (parse numbers t ts ≡ parsed c)
  pub is_deep : deep ≡ deeper bracket_limit ts
  pub is_count : connectives ≡ connectives_in ts
  pub is_undeclared : missing ≡ undeclared names (names_in ts)

abbrev pub ScanSays : List (List ℕ) → List Token → Option Scan → Type 0
ScanSays names ts None = (numbers : List ℕ → ℕ) (t : ℕ) → parse numbers t ts ≡ unparsed
ScanSays names ts (Some c) = Scanned names ts c.deep c.connectives c.undeclared

pub record ScanIs (names : List (List ℕ)) (ts : List Token) (r : Option Scan) : Type 0 where
  pub says : ScanSays names ts r
