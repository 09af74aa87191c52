-- Texts with conditions and what they say, computed from their bytes.
use Prim.Native.Nat.{ℕ}
use mathlib.Core.Path.{◌≡◌, refl}
use mathlib.Core.List.{List, [], ◌∷◌, ◌++◌}
use lib.ListN.{replicate}
use Rattle.kinds.specs.Words.{bytes, digits}
use Rattle.kinds.specs.declared.refusals.Refusal.{Refusal}
use Rattle.kinds.specs.declared.refusals.Refusal.TheVariants.{BrokenForm, Name, DeclaredTwice, Undeclared, BrokenCondition, DeepBrackets}
use Rattle.rules.specs.Lists.{All}
use Rattle.names.specs.Numerals.{value}
use Rattle.names.specs.Names.{name_class, is_common_name, is_atom_number, is_made_name, made_name, is_house, is_class_number, allowed}
use Rattle.name_store.specs.NameStore.{same_bytes}
use Rattle.conditions.specs.Conditions.{name, NOT, AND, OR, when}
use Rattle.conditions.specs.Written.{once, connective_rules}
use Rattle.conditions.specs.Numbers.{unfixed, placed_words, in_file, condition_rules, placing}
use Rattle.conditions.specs.Left.{written_names}
use Rattle.lines.specs.Lines.{lines, lines_from, line_length}
use Rattle.lines.specs.Tokens.{tokens, tokens_from, run}
use Rattle.lines.specs.Conditions.{sort_of, words_in, names_in, connectives_in, pairs, deeper, with_and, with_or, ending_of, parse_from, parse}
use Rattle.lines.specs.Forms.{opened_of, split_names, split_list, declared_form, rule_form, split_then, when_form, token_form, typed_form, form_of}
use Rattle.lines.specs.Faults.{twice, name_number, declare, add_rule, add_condition}
use Rattle.lines.specs.Said.{Said, accepted, refused, kind_of, start, read_lines, typed, placed, said}
use Rattle.restriction.specs.Atoms.{used}
use Rattle.restriction.specs.Remaining.{restrict, remaining, remaining_names}
use Rattle.text.specs.Text.{text_of, list_line, open_text, rule_line}
use Rattle.condition_text.specs.Statements.{declared_names, statements_from, statements}

-- the text that the writer gives for what a text says
abbrev written : Said → List ℕ
written (accepted p names) = text_of p names
written (refused r k) = []

-- `a and a`, `not not a`, and a condition of one name among rules; unused names are left out
small_conditions :
    All (λ (c : List ℕ × List ℕ). written (said c.0) ≡ c.1)
    ((bytes "(vary a b)\n(fix)\n(when a and a (then b))\n", bytes "(vary a b T.1)\n(fix)\n(rule (head T.1) (body a) (not))\n(rule (head a) (body T.1) (not))\n(rule (head a) (body T.1) (not))\n(rule (head b) (body T.1) (not))\n")
    ∷ (bytes "(min a)\n(vary)\n(fix b x)\n(when not not a (then b))\n", bytes "(min a)\n(vary T.1 T.2)\n(fix b)\n(rule (head T.1 T.2) (body) (not))\n(rule (head) (body T.1 T.2) (not))\n(rule (head T.2 a) (body) (not))\n(rule (head) (body T.2 a) (not))\n(rule (head b) (body T.1) (not))\n")
    ∷ (bytes "(vary a or)\n(fix)\n(rule (head a) (body) (not))\n (when(( a ))(then or)) ; behind a comment\n", bytes "(vary a or)\n(fix)\n(rule (head a) (body) (not))\n(rule (head or) (body a) (not))\n")
    ∷ [])
unfolding said typed start kind_of read_lines lines lines_from line_length tokens tokens_from run opened_of split_names split_list declared_form rule_form split_then when_form pairs words_in token_form typed_form form_of twice name_number declare add_rule add_condition sort_of names_in connectives_in deeper with_and with_or ending_of parse_from parse name_class is_common_name is_atom_number is_made_name made_name is_house is_class_number value allowed same_bytes digits once connective_rules in_file condition_rules placed unfixed placed_words placing written_names remaining remaining_names restrict used text_of list_line open_text rule_line
small_conditions = (refl, (refl, (refl, tt)))

-- "`not` binds before `and`, `and` before `or`, equals group to the left"; connectives are numbered on through the file
stated :
    statements (lines (bytes "(vary a b c)\n(fix)\n(when a or not b and c (then a))\n(when a or b or c (then a))\n"))
    ≡ when (OR (name 0) 1 (AND (NOT 2 (name 1)) 3 (name 2))) 0 ∷ when (OR (OR (name 0) 4 (name 1)) 5 (name 2)) 0 ∷ []
unfolding statements_from declared_names lines lines_from line_length tokens tokens_from run opened_of split_names split_list declared_form split_then when_form pairs words_in token_form typed_form form_of name_number name_class is_common_name is_house same_bytes sort_of with_and with_or ending_of parse_from parse connectives_in
stated = refl

abbrev IsRefused : List ℕ × Refusal × ℕ → Type 0
IsRefused c = said c.0 ≡ refused c.1 c.2

abbrev behind : List ℕ → List ℕ
behind line = bytes "(vary a b)\n(fix)\n" ++ (line ++ bytes "\n")

-- each on line 3
refusals :
    All (λ (c : List ℕ × Refusal). IsRefused (behind c.0, c.1, 3))
    (
    -- 2: no last `(then a))`, brackets that do not pair as one form, a word that is no name
    (bytes "(when a)", BrokenForm)
    ∷ (bytes "(when a (then b)) b", BrokenForm)
    ∷ (bytes "(when a) (b (then a))", BrokenForm)
    ∷ (bytes "(when T.0 (then a))", BrokenForm)
    ∷ (bytes "(when and T.257 (then a))", BrokenForm)
    -- 17: no condition there
    ∷ (bytes "(when (then a))", BrokenCondition)
    ∷ (bytes "(when a b (then a))", BrokenCondition)
    ∷ (bytes "(when a and (then a))", BrokenCondition)
    ∷ (bytes "(when () (then a))", BrokenCondition)
    ∷ (bytes "(when or (then N.a))", BrokenCondition)
    -- 3: a generated name, before 5
    ∷ (bytes "(when N.T.1 or x (then a))", Name)
    -- 5: not declared by a line, though a condition makes it
    ∷ (bytes "(when not T.1 (then a))", Undeclared)
    ∷ (bytes "(when a (then x))", Undeclared)
    ∷ [])
unfolding said typed start kind_of read_lines lines lines_from line_length tokens tokens_from run opened_of split_names split_list declared_form rule_form split_then when_form pairs words_in token_form typed_form form_of twice name_number declare add_rule add_condition sort_of names_in connectives_in deeper with_and with_or ending_of parse_from parse name_class is_common_name is_atom_number is_made_name made_name is_house is_class_number value allowed same_bytes digits once connective_rules in_file condition_rules placed unfixed placed_words placing written_names remaining remaining_names restrict used text_of list_line open_text rule_line
refusals = (refl, (refl, (refl, (refl, (refl, (refl, (refl, (refl, (refl, (refl, (refl, (refl, (refl, tt)))))))))))))

-- 4: the number that the condition's connective gets is declared; another is taken
declared_made : All IsRefused ((bytes "(vary T.2 a)\n(fix)\n(when not a (then T.2))\n(when not a (then a))\n", DeclaredTwice, 4) ∷ (bytes "(fix T.1)\n", BrokenForm, 1) ∷ (bytes "(atoms a)\n(when a (then a))\n", BrokenForm, 2) ∷ (bytes "(vary a)\n(when a (then a))\n", BrokenForm, 2) ∷ [])
unfolding said typed start kind_of read_lines lines lines_from line_length tokens tokens_from run opened_of split_names split_list declared_form rule_form split_then when_form pairs words_in token_form typed_form form_of twice name_number declare add_rule add_condition sort_of names_in connectives_in deeper with_and with_or ending_of parse_from parse name_class is_common_name is_atom_number is_made_name made_name is_house is_class_number value allowed same_bytes digits once connective_rules in_file condition_rules placed unfixed placed_words placing written_names remaining remaining_names restrict used text_of list_line open_text rule_line
declared_made = (refl, (refl, (refl, (refl, tt))))

-- 18: 32 brackets, one in another, are taken, and 33 are not
nested : ℕ → List ℕ
nested d = behind (bytes "(when " ++ (replicate d 40 ++ (bytes "a" ++ (replicate d 41 ++ bytes " (then b))"))))

deep : (written (said (nested 32)) ≡ bytes "(vary a b)\n(fix)\n(rule (head b) (body a) (not))\n") × (said (nested 33) ≡ refused DeepBrackets 3)
unfolding nested said typed start kind_of read_lines lines lines_from line_length tokens tokens_from run opened_of split_names split_list declared_form rule_form split_then when_form pairs words_in token_form typed_form form_of twice name_number declare add_rule add_condition sort_of names_in connectives_in deeper with_and with_or ending_of parse_from parse name_class is_common_name is_atom_number is_made_name made_name is_house is_class_number value allowed same_bytes digits once connective_rules in_file condition_rules placed unfixed placed_words placing written_names remaining remaining_names restrict used text_of list_line open_text rule_line
deep = (refl, refl)
