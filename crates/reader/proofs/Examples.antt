-- Texts and what they say, computed from their bytes.
use Prim.Native.Nat.{ℕ}
use mathlib.Core.Path.{◌≡◌, refl}
use mathlib.Core.List.{List, [], ◌∷◌}
use Rattle.kinds.specs.Words.{bytes}
use Rattle.kinds.specs.declared.limits.Kind.TheVariants.{Plain, Preference}
use Rattle.kinds.specs.declared.refusals.Refusal.{Refusal}
use Rattle.kinds.specs.declared.refusals.Refusal.TheVariants.{BrokenForm, Name, DeclaredTwice, Undeclared, TwiceInList, FilledNot}
use Rattle.rules.specs.Lists.{All}
use Rattle.rules.specs.Rules.{rule}
use Rattle.names.specs.Names.{name_class, is_common_name, is_made_name, is_house, is_class_number, allowed}
use Rattle.name_store.specs.NameStore.{same_bytes}
use Rattle.text.specs.Text.{text_of, list_line, open_text, rule_line}
use Rattle.lines.specs.declared.stage.Stage.TheVariants.{Ruling}
use Rattle.lines.specs.Lines.{lines, lines_from, line_length}
use Rattle.lines.specs.Tokens.{tokens, tokens_from, run}
use Rattle.lines.specs.Forms.{opened_of, split_names, split_list, declared_form, rule_form, token_form, typed_form, form_of}
use Rattle.lines.specs.Strict.{spelled, strict_text}
use Rattle.lines.specs.Faults.{SoFar, twice, name_number, declare, add_rule}
use Rattle.restriction.specs.Atoms.{used}
use Rattle.restriction.specs.Remaining.{restrict, remaining, remaining_names}
use Rattle.lines.specs.Said.{accepted, refused, kind_of, start, read_lines, typed, said, program_of, placed}

file_a : List ℕ
file_a = bytes "(min sensor)\n(min lamp)\n(vary dark)\n(fix)\n(rule (head sensor lamp) (body) (not))\n(rule (head dark) (body lamp) (not))\n"

state_a : SoFar
state_a = record { kind = Preference; stage = Ruling; classes = 2; words = 1 ∷ 2 ∷ 17 ∷ []; names = bytes "sensor" ∷ bytes "lamp" ∷ bytes "dark" ∷ []; program_rules = rule (0 ∷ 1 ∷ []) [] [] ∷ rule (2 ∷ []) (1 ∷ []) [] ∷ []; made = 0 }

a_text : text_of (program_of state_a) state_a.names ≡ file_a
unfolding file_a state_a text_of list_line open_text rule_line
a_text = refl

-- the same file, strict and typed by hand (document 02, W-205)
files_a : List (List ℕ)
files_a =
    file_a
    -- runs of spaces at line starts and ends and inside brackets
    ∷ bytes "  (min sensor)\n(min   lamp)   \n ( vary dark )\n(fix )\n(  rule  (head  sensor  lamp )  (  body)  (not ) )  \n(rule (head dark) (body lamp) (not))\n"
    -- none beside a bracket
    ∷ bytes "(min sensor)\n(min lamp)\n(vary dark)\n(fix)\n(rule(head sensor lamp)(body)(not))\n(rule(head dark)(body lamp)(not))\n"
    -- blank lines, and comments behind forms, behind spaces and on lines of their own
    ∷ bytes "\n; faults, (the grave one) first\n(min sensor);grave\n(min lamp) ; ( ;\n   \n(vary dark)\n   ; no reading\n(fix)\n;(rule (head dark) (body) (not))\n(rule (head sensor lamp) (body) (not))\n\n(rule (head dark) (body lamp) (not)) ;\n;\n"
    ∷ []

a_said : All (λ t. said t ≡ accepted (program_of state_a) state_a.names) files_a
unfolding file_a files_a state_a said typed remaining remaining_names restrict used start kind_of read_lines lines lines_from line_length tokens tokens_from run opened_of split_names split_list declared_form rule_form token_form typed_form form_of twice name_number declare add_rule name_class is_common_name is_made_name is_house is_class_number allowed same_bytes placed
a_said = (refl, (refl, (refl, (refl, tt))))

a_strict : All (λ t. strict_text t ≡ file_a) files_a
unfolding file_a files_a strict_text spelled lines lines_from line_length tokens tokens_from run
a_strict = (refl, (refl, (refl, (refl, tt))))

-- "the first bracket form tells the kind"
plain_kinds : All (λ t. (start t).kind ≡ Plain) (bytes "(atoms a)\n" ∷ bytes "; a program\n\n ( atoms)\n" ∷ bytes ";\n(atoms" ∷ [])
unfolding start kind_of lines lines_from line_length tokens tokens_from run opened_of same_bytes
plain_kinds = (refl, (refl, (refl, tt)))

preference_kinds : All (λ t. (start t).kind ≡ Preference) (bytes "; (atoms a)\n(vary)\n(atoms a)\n" ∷ bytes "(atomsa)\n" ∷ bytes "atoms\n(atoms)\n" ∷ bytes "\n" ∷ [] ∷ [])
unfolding start kind_of lines lines_from line_length tokens tokens_from run opened_of same_bytes
preference_kinds = (refl, (refl, (refl, (refl, (refl, tt)))))

abbrev IsRefused : List ℕ × Refusal × ℕ → Type 0
IsRefused c = said c.0 ≡ refused c.1 c.2

refusals :
    All IsRefused
    ((bytes "(min N.a)\n", Name, 1)
    ∷ (bytes "(min a)\n(vary a)\n", DeclaredTwice, 2)
    ∷ (bytes "(atoms E.3 U)\n(rule (head a) (body) (not))\n", Undeclared, 2)
    ∷ (bytes "(vary a)\n(fix)\n(rule (head) (body a a) (not))\n", TwiceInList, 3)
    ∷ (bytes "(vary)\n(fix a)\n(rule (head) (body) (not a))\n", FilledNot, 3)
    -- a missing line stands one past the last
    ∷ (bytes "(min a)\n", BrokenForm, 2)
    ∷ ([], BrokenForm, 1)
    ∷ (bytes "\n ; none\n", BrokenForm, 3)
    -- byte 10 at the end of the last line, comment or not; a comment cuts the line
    ∷ (bytes "(vary)\n(fix)", BrokenForm, 2)
    ∷ (bytes "(vary)\n(fix)\n; end", BrokenForm, 3)
    ∷ (bytes "(vary a)\n(fix)\n(rule (head a) ;(body) (not))\n", BrokenForm, 3)
    -- "Lines are counted as typed"
    ∷ (bytes "; one\n\n(min a)\n  ; four\n(vary a)\n", DeclaredTwice, 5)
    ∷ [])
unfolding said typed start kind_of read_lines lines lines_from line_length tokens tokens_from run opened_of split_names split_list declared_form rule_form token_form typed_form form_of twice name_number declare add_rule name_class is_common_name is_made_name is_house is_class_number allowed same_bytes
refusals = (refl, (refl, (refl, (refl, (refl, (refl, (refl, (refl, (refl, (refl, (refl, (refl, tt))))))))))))

-- form broken on the first line
broken_forms :
    All (λ t. IsRefused (t, BrokenForm, 1))
    (
    -- a comment cuts the line
    bytes "(vary a;)\n(fix)\n"
    ∷ bytes "(vary a ;b)\n(fix)\n"
    -- a tab is no space
    ∷ bytes "(vary\ta)\n"
    ∷ bytes "\t\n(vary)\n(fix)\n"
    -- two forms on a line, and one on two
    ∷ bytes "(vary) (fix)\n"
    ∷ bytes "(vary a\nb)\n(fix)\n"
    -- a bracket in a list, a word without its space, no bracket, one too many
    ∷ bytes "(min(a))\n"
    ∷ bytes "(minx)\n"
    ∷ bytes "vary\n(fix)\n"
    ∷ bytes "(vary))\n(fix)\n"
    ∷ [])
unfolding said typed start kind_of read_lines lines lines_from line_length tokens tokens_from run opened_of split_names split_list declared_form rule_form token_form typed_form form_of twice name_number declare add_rule name_class is_common_name is_made_name is_house is_class_number allowed same_bytes
broken_forms = (refl, (refl, (refl, (refl, (refl, (refl, (refl, (refl, (refl, (refl, tt))))))))))
