-- The text of a program: one bracket form a line, one space between items (document 01, "The two kinds of file").
use Rattle.std.specs.Prelude.{ℕ, List, [], ◌∷◌, ◌++◌, map, get_or}
use Rattle.kinds.specs.declared.limits.Kind.{Kind}
use Rattle.kinds.specs.declared.limits.Kind.TheVariants.{Plain, Preference}
use Rattle.rules.specs.Lists.{flat, from}
use Rattle.rules.specs.Rules.{Rule}
use Rattle.kinds.specs.Limits.{varying, fixed}
use Rattle.rules.specs.Preferred.{of_class}
use Rattle.stores.specs.Program.{Program}
use Rattle.kinds.specs.Words.{space, open_bracket, close_bracket, line_end_lem, atoms_word, min_word, vary_word, fix_word, rule_word, head_word, body_word, not_word}

-- a name after its space
abbrev pub item : List ℕ → List ℕ
item x = space ∷ x

-- `(word a b`
unfoldable pub open_text : List ℕ → List (List ℕ) → List ℕ
open_text word names = open_bracket ∷ (word ++ flat item names)

-- a line `(word a b)`
unfoldable pub list_line : List ℕ → List (List ℕ) → List ℕ
list_line word names = open_text word names ++ (close_bracket ∷ line_end_lem ∷ [])

-- a line `(rule (head a) (body b) (not c))`
unfoldable pub rule_line : List (List ℕ) → List (List ℕ) → List (List ℕ) → List ℕ
rule_line heads bodies nots =
    (open_bracket ∷ rule_word)
    ++ (space ∷ open_text head_word heads
    ++ (close_bracket ∷ space ∷ open_text body_word bodies
    ++ (close_bracket ∷ space ∷ open_text not_word nots
    ++ (close_bracket ∷ close_bracket ∷ line_end_lem ∷ []))))

-- the names of atoms, by their numbers
abbrev pub named : List (List ℕ) → List ℕ → List (List ℕ)
named names xs = map (λ a. get_or names a []) xs

-- the atoms of one class word
abbrev pub class_line : Program → List (List ℕ) → List ℕ → ℕ → List ℕ
class_line p names word w = list_line word (named names (of_class p.words w))

abbrev pub declarations : Kind → Program → List (List ℕ) → List ℕ
declarations Plain p names = list_line atoms_word names
declarations Preference p names =
    flat (class_line p names min_word) (from 1 p.classes) ++ (class_line p names vary_word varying ++ class_line p names fix_word fixed)

abbrev pub rule_text : List (List ℕ) → Rule ℕ → List ℕ
rule_text names r = rule_line (named names r.head) (named names r.body) (named names r.nots)

unfoldable pub text_of : Program → List (List ℕ) → List ℕ
text_of p names = declarations p.kind p names ++ flat (rule_text names) p.rules
