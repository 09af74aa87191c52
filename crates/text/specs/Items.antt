-- The names of atoms by their numbers, each after a space, and the lines made of them.
use Rattle.std.specs.Prelude.{ℕ, ◌≤◌, ◌≡◌, List, [], ◌∷◌, ◌++◌, length, get_or}
use Rattle.rules.specs.Lists.{flat, from}
use Rattle.rules.specs.Rules.{Rule}
use Rattle.kinds.specs.Limits.{varying, fixed}
use Rattle.rules.specs.Preferred.{of_class}
use Rattle.name_store.specs.NameStore.{encode_names, decode_names}
use Rattle.kinds.specs.Words.{close_bracket, line_end_lem, min_word, vary_word, fix_word}
use Rattle.text.specs.Text.{item, list_line, named, rule_text}

-- the names of a store that `starts` has a place for
abbrev pub stored_names : List ℕ → List ℕ → List (List ℕ)
stored_names bytes starts = decode_names (length starts) bytes

-- the bytes are the store of those names, and each place fits in a word
pub record StoredNames (bytes starts : List ℕ) : Type 0 where
  pub whole : encode_names (stored_names bytes starts) ≡ bytes
  pub short : length bytes ≤ 65536

unfoldable pub atom_item : List (List ℕ) → ℕ → List ℕ
atom_item names a = item (get_or names a [])

unfoldable pub atom_items : List (List ℕ) → List ℕ → List ℕ
atom_items names xs = flat item (named names xs)

-- a line of atoms, with its opening
unfoldable pub atom_line : List (List ℕ) → List ℕ → List ℕ → List ℕ
atom_line names opening xs = opening ++ (atom_items names xs ++ (close_bracket ∷ line_end_lem ∷ []))

-- the atoms of one list of a rule, with what stands before them
unfoldable pub atom_part : List (List ℕ) → List ℕ → List ℕ → List ℕ
atom_part names opening xs = opening ++ atom_items names xs

unfoldable pub rule_item : List (List ℕ) → Rule ℕ → List ℕ
rule_item names r = rule_text names r

unfoldable pub rule_items : List (List ℕ) → List (Rule ℕ) → List ℕ
rule_items names rs = flat (rule_text names) rs

-- the line of one class word, and the lines of a preference program's class words
unfoldable pub class_item : List (List ℕ) → List ℕ → List ℕ → ℕ → List ℕ
class_item names words word w = list_line word (named names (of_class words w))

unfoldable pub min_items : List (List ℕ) → List ℕ → ℕ → ℕ → List ℕ
min_items names words class count = flat (class_item names words min_word) (from class count)

unfoldable pub class_items : List (List ℕ) → List ℕ → ℕ → List ℕ
class_items names words classes = min_items names words 1 classes ++ (class_item names words vary_word varying ++ class_item names words fix_word fixed)
