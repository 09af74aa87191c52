-- Conditions in document 02's words (W-208): "COND joins names by `not`, `and`, `or` (no names there) and brackets; `not` binds before `and`, `and` before `or`, equals group to the left."
use Rattle.std.specs.Prelude.{ℕ, suc, ◌+◌, ◌≤◌, ◌<◌, max, ◌≡◌, ◌≢◌, List, [], ◌∷◌, ◌++◌}
use Rattle.kinds.specs.Words.{not_word, and_word, or_word}
use Rattle.conditions.specs.Conditions.{Cond, name, NOT, AND, OR}
use Rattle.lines.specs.Tokens.{Token, opening, closing, word}

-- a condition as it is typed
pub data Typed : Type 0 where
  called : List ℕ → Typed
  brackets negation : Typed → Typed
  conjunction disjunction : Typed → Typed → Typed

-- its brackets and words
abbrev pub typed_as : Typed → List Token
typed_as (called x) = word x ∷ []
typed_as (brackets c) = opening ∷ (typed_as c ++ (closing ∷ []))
typed_as (negation c) = word not_word ∷ typed_as c
typed_as (conjunction l r) = typed_as l ++ (word and_word ∷ typed_as r)
typed_as (disjunction l r) = typed_as l ++ (word or_word ∷ typed_as r)

-- "(no names there)"
abbrev pub NoConnective : List ℕ → Type 0
NoConnective x = (x ≢ not_word) × (x ≢ and_word) × (x ≢ or_word)

-- "`not` binds before `and`, `and` before `or`": the lower, the closer; names and brackets are as close as `not`
abbrev pub binding : Typed → ℕ
binding (called x) = 0
binding (brackets c) = 0
binding (negation c) = 0
binding (conjunction l r) = 1
binding (disjunction l r) = 2

-- a part binds no looser than what it is a part of; "equals group to the left": a right part binds closer
abbrev pub Grouped : Typed → Type 0
Grouped (called x) = NoConnective x
Grouped (brackets c) = Grouped c
Grouped (negation c) = (binding c ≤ binding (negation c)) × Grouped c
Grouped (conjunction l r) = (binding l ≤ binding (conjunction l r)) × (binding r < binding (conjunction l r)) × Grouped l × Grouped r
Grouped (disjunction l r) = (binding l ≤ binding (disjunction l r)) × (binding r < binding (disjunction l r)) × Grouped l × Grouped r

-- the tokens are this condition
abbrev pub Spells : Typed → List Token → Type 0
Spells c ts = Grouped c × (typed_as c ≡ ts)

abbrev pub IsCondition : List Token → Type 0
IsCondition ts = (c : Typed) × Spells c ts

abbrev pub connectives_typed : Typed → ℕ
connectives_typed (called x) = 0
connectives_typed (brackets c) = connectives_typed c
connectives_typed (negation c) = suc (connectives_typed c)
connectives_typed (conjunction l r) = connectives_typed l + suc (connectives_typed r)
connectives_typed (disjunction l r) = connectives_typed l + suc (connectives_typed r)

-- what it means: names by their atoms, "each connective, in file order" with a number, from t on
abbrev pub meant : (List ℕ → ℕ) → ℕ → Typed → Cond
meant numbers t (called x) = name (numbers x)
meant numbers t (brackets c) = meant numbers t c
meant numbers t (negation c) = NOT t (meant numbers (suc t) c)
meant numbers t (conjunction l r) = AND (meant numbers t l) (t + connectives_typed l) (meant numbers (suc (t + connectives_typed l)) r)
meant numbers t (disjunction l r) = OR (meant numbers t l) (t + connectives_typed l) (meant numbers (suc (t + connectives_typed l)) r)

-- how deep its brackets nest
abbrev pub depth : Typed → ℕ
depth (called x) = 0
depth (brackets c) = suc (depth c)
depth (negation c) = depth c
depth (conjunction l r) = max (depth l) (depth r)
depth (disjunction l r) = max (depth l) (depth r)

abbrev pub DeeperThan : ℕ → List Token → Type 0
DeeperThan n ts = (c : Typed) × Spells c ts × (n < depth c)
