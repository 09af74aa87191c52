-- The forms of a line by its brackets and words (document 01, "The two kinds of file"; document 02, W-205 and W-208). A name that is no name of any kind breaks its line's form (refusal 2).
use Rattle.std.specs.Prelude.{ℕ, Bool, true, false, cond, List, [], ◌∷◌, ◌++◌}
use Rattle.rules.specs.Lists.{every}
use Rattle.names.specs.declared.forms.NameClass.{NameClass}
use Rattle.names.specs.declared.forms.NameClass.TheVariants.{Common, Generated, TooLong, Wrong}
use Rattle.names.specs.Names.{name_class}
use Rattle.name_store.specs.NameStore.{same_bytes}
use Rattle.kinds.specs.Words.{atoms_word, min_word, vary_word, fix_word, rule_word, head_word, body_word, not_word, when_word, then_word}
use Rattle.lines.specs.Lines.{is_ended}
use Rattle.lines.specs.Tokens.{Token, opening, closing, word, tokens, leading, behind}
use Rattle.lines.specs.Conditions.{words_in, pairs}

-- the word of a line that declares atoms
pub data Word : Type 0 where
  atoms min vary fix : Word

abbrev pub word_bytes : Word → List ℕ
word_bytes atoms = atoms_word
word_bytes min = min_word
word_bytes vary = vary_word
word_bytes fix = fix_word

pub data LineForm : Type 0 where
  declares : Word → List (List ℕ) → LineForm
  -- a rule's head, body and not list
  rules : List (List ℕ) → List (List ℕ) → List (List ℕ) → LineForm
  -- what stands between `(when` and `(then a))`, and a (document 02, W-208)
  condition : List Token → List ℕ → LineForm
  -- neither bracket nor word
  blank : LineForm
  broken : LineForm

-- an opening bracket with the word behind it, and what follows
pub data Opened : Type 0 where
  opened : List ℕ → List Token → Opened
  unopened : Opened

abbrev pub opened_by : List Token → Opened
opened_by [] = unopened
opened_by (opening ∷ ts) = unopened
opened_by (closing ∷ ts) = unopened
opened_by (word x ∷ ts) = opened x ts

unfoldable pub opened_of : List Token → Opened
opened_of [] = unopened
opened_of (opening ∷ ts) = opened_by ts
opened_of (closing ∷ ts) = unopened
opened_of (word x ∷ ts) = unopened

-- names up to a closing bracket, and what stands behind it
pub data Split : Type 0 where
  split : List (List ℕ) → List Token → Split
  none : Split

abbrev pub closed_by : List (List ℕ) → List Token → Split
closed_by xs [] = none
closed_by xs (opening ∷ ts) = none
closed_by xs (closing ∷ ts) = split xs ts
closed_by xs (word x ∷ ts) = none

unfoldable pub split_names : List Token → Split
split_names ts = closed_by (leading ts) (behind ts)

abbrev pub on_opened : Opened → List ℕ → Split
on_opened (opened x ts) w = cond (same_bytes x w) (split_names ts) none
on_opened unopened w = none

-- `(w a b)` at the front
unfoldable pub split_list : List ℕ → List Token → Split
split_list w ts = on_opened (opened_of ts) w

abbrev pub on_split : Split → (List (List ℕ) → List Token → LineForm) → LineForm
on_split (split xs rest) f = f xs rest
on_split none f = broken

-- nothing follows
abbrev pub lastly : List Token → LineForm → LineForm
lastly [] f = f
lastly (t ∷ ts) f = broken

-- a closing bracket, and nothing follows
abbrev pub closed_lastly : List Token → LineForm → LineForm
closed_lastly [] f = broken
closed_lastly (opening ∷ ts) f = broken
closed_lastly (closing ∷ ts) f = lastly ts f
closed_lastly (word x ∷ ts) f = broken

-- behind `(min` and the like
unfoldable pub declared_form : Word → List Token → LineForm
declared_form w ts = on_split (split_names ts) (λ xs rest. lastly rest (declares w xs))

-- behind `(rule`
unfoldable pub rule_form : List Token → LineForm
rule_form ts =
    on_split (split_list head_word ts) (λ hs r. on_split (split_list body_word r) (λ bs s. on_split (split_list not_word s) (λ ns rest. closed_lastly rest (rules hs bs ns))))

-- the tokens in front of a last `(then a))`, and a
pub data Conditional : Type 0 where
  conditional : List Token → List ℕ → Conditional
  unconditional : Conditional

abbrev pub only_closing : List Token → List ℕ → Conditional
only_closing [] a = unconditional
only_closing (opening ∷ ts) a = unconditional
only_closing (closing ∷ []) a = conditional [] a
only_closing (closing ∷ t ∷ ts) a = unconditional
only_closing (word x ∷ ts) a = unconditional

abbrev pub only_name : Split → Conditional
only_name (split [] rest) = unconditional
only_name (split (a ∷ []) rest) = only_closing rest a
only_name (split (a ∷ b ∷ xs) rest) = unconditional
only_name none = unconditional

abbrev pub then_or : Conditional → Conditional → Conditional
then_or (conditional ts a) later = conditional ts a
then_or unconditional later = later

abbrev pub in_front : Token → Conditional → Conditional
in_front t (conditional ts a) = conditional (t ∷ ts) a
in_front t unconditional = unconditional

unfoldable pub split_then : List Token → Conditional
split_then [] = unconditional
split_then (t ∷ ts) = then_or (only_name (split_list then_word (t ∷ ts))) (in_front t (split_then ts))

-- the line's brackets pair as one form
abbrev pub paired_form : Conditional → LineForm
paired_form (conditional ts a) = cond (pairs 0 ts) (condition ts a) broken
paired_form unconditional = broken

-- behind `(when`
unfoldable pub when_form : List Token → LineForm
when_form ts = paired_form (split_then ts)

abbrev pub opened_form : Opened → LineForm
opened_form (opened x ts) =
    cond (same_bytes x atoms_word) (declared_form atoms ts)
    (cond (same_bytes x min_word) (declared_form min ts)
    (cond (same_bytes x vary_word) (declared_form vary ts)
    (cond (same_bytes x fix_word) (declared_form fix ts)
    (cond (same_bytes x rule_word) (rule_form ts)
    (cond (same_bytes x when_word) (when_form ts) broken)))))
opened_form unopened = broken

unfoldable pub token_form : List Token → LineForm
token_form [] = blank
token_form (t ∷ ts) = opened_form (opened_of (t ∷ ts))

-- whatever the words are: "each line ended by byte 10"
unfoldable pub typed_form : List ℕ → LineForm
typed_form l = cond (is_ended l) (token_form (tokens l)) broken

abbrev pub is_name : NameClass → Bool
is_name Common = true
is_name Generated = true
is_name TooLong = true
is_name Wrong = false

abbrev pub are_names : List (List ℕ) → Bool
are_names xs = every (λ x. is_name (name_class x)) xs

abbrev pub named : LineForm → LineForm
named (declares w xs) = cond (are_names xs) (declares w xs) broken
named (rules hs bs ns) = cond (are_names hs) (cond (are_names bs) (cond (are_names ns) (rules hs bs ns) broken) broken) broken
named (condition ts a) = cond (are_names (words_in ts ++ (a ∷ []))) (condition ts a) broken
named blank = blank
named broken = broken

unfoldable pub form_of : List ℕ → LineForm
form_of l = named (typed_form l)
