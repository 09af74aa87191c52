-- Texts of programs, and their canonical texts.
use Prim.Native.Nat.{ℕ}
use mathlib.Core.Path.{◌≡◌, refl}
use mathlib.Core.List.{List, [], ◌∷◌}
use Rattle.kinds.specs.Words.{bytes}
use Rattle.kinds.specs.declared.limits.Kind.TheVariants.{Plain, Preference}
use Rattle.rules.specs.Rules.{Rule, rule}
use Rattle.stores.specs.Program.{Program}
use Rattle.text.specs.Text.{open_text, list_line, rule_line, text_of}
use Rattle.canonical.specs.Order.{numbers}
use Rattle.canonical.specs.Canonical.{compare_lists, compare_rules, tidy, canonical}
use Rattle.canonical.specs.CanonicalProgram.{canonical_program}
use Rattle.answers.specs.WritingCanonical.{canonical_text}

-- the text of a program, and its canonical text
abbrev Texts : Program → List ℕ → List ℕ → Type 0
Texts p text sorted = let names = bytes "a" ∷ bytes "b" ∷ bytes "c" ∷ [] in (text_of p names ≡ text) × (canonical_text p names ≡ sorted)

abbrev plain : List (Rule ℕ) → Program
plain rs = record { kind = Plain; atoms = 3; classes = 0; words = []; rules = rs }

abbrev preference : List (Rule ℕ) → Program
preference rs = record { kind = Preference; atoms = 3; classes = 1; words = 1 ∷ 1 ∷ 17 ∷ []; rules = rs }

-- atoms by their numbers inside each list
lists_sorted : Texts (plain (rule (2 ∷ 0 ∷ []) (2 ∷ 1 ∷ []) (1 ∷ 0 ∷ []) ∷ []))
    (bytes "(atoms a b c)\n(rule (head c a) (body c b) (not b a))\n")
    (bytes "(atoms a b c)\n(rule (head a c) (body b c) (not a b))\n")
unfolding open_text list_line rule_line text_of numbers compare_lists compare_rules tidy canonical canonical_program canonical_text
lists_sorted = (refl, refl)

-- the head decides before the body, the body before the not list
head_first : Texts (plain (rule (1 ∷ []) (0 ∷ []) [] ∷ rule (0 ∷ []) (2 ∷ []) [] ∷ rule (0 ∷ []) (1 ∷ []) (2 ∷ []) ∷ []))
    (bytes "(atoms a b c)\n(rule (head b) (body a) (not))\n(rule (head a) (body c) (not))\n(rule (head a) (body b) (not c))\n")
    (bytes "(atoms a b c)\n(rule (head a) (body b) (not c))\n(rule (head a) (body c) (not))\n(rule (head b) (body a) (not))\n")
unfolding open_text list_line rule_line text_of numbers compare_lists compare_rules tidy canonical canonical_program canonical_text
head_first = (refl, refl)

-- a list that ends first stands before
shorter_first : Texts (preference (rule (0 ∷ 1 ∷ []) [] [] ∷ rule (0 ∷ []) (1 ∷ []) [] ∷ rule (0 ∷ []) [] [] ∷ rule [] (2 ∷ []) [] ∷ []))
    (bytes "(min a b)\n(vary c)\n(fix)\n(rule (head a b) (body) (not))\n(rule (head a) (body b) (not))\n(rule (head a) (body) (not))\n(rule (head) (body c) (not))\n")
    (bytes "(min a b)\n(vary c)\n(fix)\n(rule (head) (body c) (not))\n(rule (head a) (body) (not))\n(rule (head a) (body b) (not))\n(rule (head a b) (body) (not))\n")
unfolding open_text list_line rule_line text_of numbers compare_lists compare_rules tidy canonical canonical_program canonical_text
shorter_first = (refl, refl)

-- one of rules that are equal once their lists are sorted
equal_once : Texts (preference (rule (1 ∷ 0 ∷ []) (2 ∷ []) [] ∷ rule (2 ∷ []) [] [] ∷ rule (0 ∷ 1 ∷ []) (2 ∷ []) [] ∷ []))
    (bytes "(min a b)\n(vary c)\n(fix)\n(rule (head b a) (body c) (not))\n(rule (head c) (body) (not))\n(rule (head a b) (body c) (not))\n")
    (bytes "(min a b)\n(vary c)\n(fix)\n(rule (head a b) (body c) (not))\n(rule (head c) (body) (not))\n")
unfolding open_text list_line rule_line text_of numbers compare_lists compare_rules tidy canonical canonical_program canonical_text
equal_once = (refl, refl)
