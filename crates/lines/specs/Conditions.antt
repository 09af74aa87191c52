-- Conditions by their brackets and words (document 02, W-208): "COND joins names by `not`, `and`, `or` (no names there) and brackets; `not` binds before `and`, `and` before `or`, equals group to the left."
use Rattle.std.specs.Prelude.{ℕ, zero, suc, Bool, true, false, cond, List, [], ◌∷◌}
use Rattle.kinds.specs.Words.{not_word, and_word, or_word}
use Rattle.name_store.specs.NameStore.{same_bytes}
use Rattle.conditions.specs.Conditions.{Cond, name, NOT, AND, OR}
use Rattle.lines.specs.Tokens.{Token, opening, closing, word}

-- what a word is in a condition
pub data WordSort : Type 0 where
  negation conjunction disjunction called : WordSort

unfoldable pub sort_of : List ℕ → WordSort
sort_of x = cond (same_bytes x not_word) negation (cond (same_bytes x and_word) conjunction (cond (same_bytes x or_word) disjunction called))

abbrev pub by_sort : {A : Type 0} → WordSort → A → A → A → A → A
by_sort negation n c d x = n
by_sort conjunction n c d x = c
by_sort disjunction n c d x = d
by_sort called n c d x = x

-- the words, the names and the connectives among them
unfoldable pub words_in : List Token → List (List ℕ)
words_in [] = []
words_in (opening ∷ ts) = words_in ts
words_in (closing ∷ ts) = words_in ts
words_in (word x ∷ ts) = x ∷ words_in ts

unfoldable pub names_in : List Token → List (List ℕ)
names_in [] = []
names_in (opening ∷ ts) = names_in ts
names_in (closing ∷ ts) = names_in ts
names_in (word x ∷ ts) = by_sort (sort_of x) (names_in ts) (names_in ts) (names_in ts) (x ∷ names_in ts)

unfoldable pub connectives_in : List Token → ℕ
connectives_in [] = 0
connectives_in (opening ∷ ts) = connectives_in ts
connectives_in (closing ∷ ts) = connectives_in ts
connectives_in (word x ∷ ts) = by_sort (sort_of x) (suc (connectives_in ts)) (suc (connectives_in ts)) (suc (connectives_in ts)) (connectives_in ts)

-- d brackets are open, and all brackets pair
unfoldable pub pairs : ℕ → List Token → Bool
pairs zero [] = true
pairs (suc d) [] = false
pairs d (opening ∷ ts) = pairs (suc d) ts
pairs zero (closing ∷ ts) = false
pairs (suc d) (closing ∷ ts) = pairs d ts
pairs d (word x ∷ ts) = pairs d ts

-- more than so many brackets are open at once
unfoldable pub deeper : ℕ → List Token → Bool
deeper r [] = false
deeper zero (opening ∷ ts) = true
deeper (suc r) (opening ∷ ts) = deeper r ts
deeper r (closing ∷ ts) = deeper (suc r) ts
deeper r (word x ∷ ts) = deeper r ts

-- what awaits the part that comes next, the last first; a connective has its number
pub data Pending : Type 0 where
  bracket : Pending
  negate : ℕ → Pending
  conjoin disjoin : Cond → ℕ → Pending

-- behind a part comes `and`: it joins all that binds as close
unfoldable pub with_and : ℕ → List Pending → Cond → List Pending
with_and t [] c = conjoin c t ∷ []
with_and t (bracket ∷ ps) c = conjoin c t ∷ bracket ∷ ps
with_and t (negate u ∷ ps) c = with_and t ps (NOT u c)
with_and t (conjoin l u ∷ ps) c = with_and t ps (AND l u c)
with_and t (disjoin l u ∷ ps) c = conjoin c t ∷ disjoin l u ∷ ps

-- behind a part comes `or`
unfoldable pub with_or : ℕ → List Pending → Cond → List Pending
with_or t [] c = disjoin c t ∷ []
with_or t (bracket ∷ ps) c = disjoin c t ∷ bracket ∷ ps
with_or t (negate u ∷ ps) c = with_or t ps (NOT u c)
with_or t (conjoin l u ∷ ps) c = with_or t ps (AND l u c)
with_or t (disjoin l u ∷ ps) c = with_or t ps (OR l u c)

-- behind a part comes an end: all up to the last open bracket, or all
pub data Ending : Type 0 where
  bracketed : List Pending → Cond → Ending
  free : Cond → Ending

unfoldable pub ending_of : List Pending → Cond → Ending
ending_of [] c = free c
ending_of (bracket ∷ ps) c = bracketed ps c
ending_of (negate u ∷ ps) c = ending_of ps (NOT u c)
ending_of (conjoin l u ∷ ps) c = ending_of ps (AND l u c)
ending_of (disjoin l u ∷ ps) c = ending_of ps (OR l u c)

pub data Parsed : Type 0 where
  parsed : Cond → Parsed
  unparsed : Parsed

abbrev pub on_closing : Ending → (List Pending → Cond → Parsed) → Parsed
on_closing (bracketed ps c) f = f ps c
on_closing (free c) f = unparsed

abbrev pub whole_of : Ending → Parsed
whole_of (bracketed ps c) = unparsed
whole_of (free c) = parsed c

-- what may come next: a part; behind one, a connective or an end
pub data Turn : Type 0 where
  part : Turn
  after : Cond → Turn

-- numbers gives a name's atom, the next connective gets the number t
unfoldable pub parse_from : (List ℕ → ℕ) → ℕ → List Pending → Turn → List Token → Parsed
parse_from numbers t ps part [] = unparsed
parse_from numbers t ps part (opening ∷ ts) = parse_from numbers t (bracket ∷ ps) part ts
parse_from numbers t ps part (closing ∷ ts) = unparsed
parse_from numbers t ps part (word x ∷ ts) =
    by_sort (sort_of x) (parse_from numbers (suc t) (negate t ∷ ps) part ts) unparsed unparsed (parse_from numbers t ps (after (name (numbers x))) ts)
parse_from numbers t ps (after c) [] = whole_of (ending_of ps c)
parse_from numbers t ps (after c) (opening ∷ ts) = unparsed
parse_from numbers t ps (after c) (closing ∷ ts) = on_closing (ending_of ps c) (λ qs d. parse_from numbers t qs (after d) ts)
parse_from numbers t ps (after c) (word x ∷ ts) =
    by_sort (sort_of x) unparsed (parse_from numbers (suc t) (with_and t ps c) part ts) (parse_from numbers (suc t) (with_or t ps c) part ts) unparsed

-- the condition that the tokens are, its connectives numbered from t on where they stand
unfoldable pub parse : (List ℕ → ℕ) → ℕ → List Token → Parsed
parse numbers t ts = parse_from numbers t [] part ts
