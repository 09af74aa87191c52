-- What the lines of a text declare and state, conditions as conditions: nothing here knows the rules that are written for them (document 02, W-208).
use Rattle.std.specs.Prelude.{ℕ, suc, ◌+◌, List, [], ◌∷◌, ◌++◌, length}
use Rattle.conditions.specs.Conditions.{Cond, Statement, states, when}
use Rattle.lines.specs.Conditions.{connectives_in, Parsed, parsed, unparsed, parse}
use Rattle.lines.specs.Forms.{LineForm, declares, rules, condition, blank, broken, form_of}
use Rattle.lines.specs.Faults.{classes_after, class_words, name_number, numbered}

-- the names that the lines declare
abbrev pub names_of : LineForm → List (List ℕ)
names_of (declares w xs) = xs
names_of (rules hs bs ns) = []
names_of (condition ts a) = []
names_of blank = []
names_of broken = []

unfoldable pub declared_names : List (List ℕ) → List (List ℕ)
declared_names [] = []
declared_names (l ∷ ls) = names_of (form_of l) ++ declared_names ls

-- their class words, k classes having come
abbrev pub words_of : ℕ → LineForm → List ℕ
words_of k (declares w xs) = class_words w k (length xs)
words_of k (rules hs bs ns) = []
words_of k (condition ts a) = []
words_of k blank = []
words_of k broken = []

abbrev pub classes_of : ℕ → LineForm → ℕ
classes_of k (declares w xs) = classes_after w k
classes_of k (rules hs bs ns) = k
classes_of k (condition ts a) = k
classes_of k blank = k
classes_of k broken = k

unfoldable pub declared_words : ℕ → List (List ℕ) → List ℕ
declared_words k [] = []
declared_words k (l ∷ ls) = words_of k (form_of l) ++ declared_words (classes_of k (form_of l)) ls

-- the statements, the atoms by their numbers among the names, connectives numbered on from m
abbrev pub when_parsed : Parsed → (Cond → List Statement) → List Statement
when_parsed (parsed c) f = f c
when_parsed unparsed f = []

abbrev pub statements_of : List (List ℕ) → ℕ → LineForm → List Statement
statements_of names m (declares w xs) = []
statements_of names m (rules hs bs ns) = states (numbered names hs bs ns) ∷ []
statements_of names m (condition ts a) = when_parsed (parse (name_number names) (suc m) ts) (λ c. when c (name_number names a) ∷ [])
statements_of names m blank = []
statements_of names m broken = []

abbrev pub connectives_of : LineForm → ℕ
connectives_of (declares w xs) = 0
connectives_of (rules hs bs ns) = 0
connectives_of (condition ts a) = connectives_in ts
connectives_of blank = 0
connectives_of broken = 0

unfoldable pub statements_from : List (List ℕ) → ℕ → List (List ℕ) → List Statement
statements_from names m [] = []
statements_from names m (l ∷ ls) = statements_of names m (form_of l) ++ statements_from names (m + connectives_of (form_of l)) ls

-- those of all lines
abbrev pub statements : List (List ℕ) → List Statement
statements ls = statements_from (declared_names ls) 0 ls
