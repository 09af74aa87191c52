-- What the code finds in the bytes, at their places.
use Rattle.std.specs.Prelude.{ℕ, suc, ◌+◌, ◌≤◌, ◌<◌, ◌≡◌, Bool, false, true, cond, List, [], ◌∷◌, eqb, length, get_or, take, drop, Option, Some, None}
use Rattle.kinds.specs.declared.limits.Kind.{Kind}
use Rattle.kinds.specs.declared.limits.Kind.TheVariants.{Plain, Preference}
use Rattle.rules.specs.Lists.{some, is_empty}
use Rattle.names.specs.declared.forms.NameClass.{NameClass}
use Rattle.names.specs.declared.forms.NameClass.TheVariants.{Common, Generated, TooLong, Wrong}
use Rattle.names.specs.Names.{name_class}
use Rattle.name_store.specs.NameStore.{same_bytes}
use Rattle.kinds.specs.Words.{space, open_bracket, close_bracket, then_word}
use Rattle.lines.specs.declared.scan.Item.{Item}
use Rattle.lines.specs.declared.scan.Bracket.{Bracket}
use Rattle.lines.specs.declared.forms.NameFit.{NameFit}
use Rattle.lines.specs.declared.forms.NameFit.TheVariants as Fit
use Rattle.lines.specs.declared.forms.Names.{Names}
use Rattle.lines.specs.declared.forms.Keyword.{Keyword}
use Rattle.lines.specs.declared.forms.Keyword.TheVariants.{Atoms, Min, Vary, Fix}
use Rattle.lines.specs.declared.forms.DeclaredShape.{DeclaredShape}
use Rattle.lines.specs.declared.forms.Shape.{Shape}
use Rattle.lines.specs.declared.forms.Shape.TheVariants as Line
use Rattle.lines.specs.Tokens.{Token, opening, closing, word, is_delimiter, run, tokens, items}
use Rattle.lines.specs.Forms.{Word, atoms, min, vary, fix, LineForm, declares, rules, condition, blank, broken, Opened, opened, unopened, opened_of, split, split_names, split_list, are_names}
use Rattle.lines.specs.Faults.{refused_name, any_of}

-- the list begins with the tag
abbrev pub begins : List ℕ → List ℕ → Bool
begins tag s = same_bytes (take (length tag) s) tag

-- how many spaces stand at the front
unfoldable pub gap : List ℕ → ℕ
gap [] = 0
gap (b ∷ s) = cond (eqb b space) (suc (gap s)) 0

-- a word of n bytes behind g spaces
abbrev pub spaced : ℕ → ℕ → Option Item
spaced g n = Some (record { gap = g; size = n })

-- the word at the front, behind so many spaces
unfoldable pub word_behind : ℕ → List ℕ → Option Item
word_behind g [] = None
word_behind g (b ∷ s) = cond (is_delimiter b) None (spaced g (run (b ∷ s)))

unfoldable pub item_of : List ℕ → Option Item
item_of s = word_behind (gap s) (drop (gap s) s)

-- a word that no delimiter cuts
pub record WholeWord (w : List ℕ) : Type 0 where
  pub whole : run w ≡ length w
  pub filled : 1 ≤ length w

-- the place behind a bracket, or behind one and its word

abbrev pub is_closing : List Token → Bool
is_closing [] = false
is_closing (opening ∷ ts) = false
is_closing (closing ∷ ts) = true
is_closing (word x ∷ ts) = false

-- a closing bracket is the last token
abbrev pub is_closing_last : List Token → Bool
is_closing_last [] = false
is_closing_last (opening ∷ ts) = false
is_closing_last (closing ∷ ts) = is_empty ts
is_closing_last (word x ∷ ts) = false

abbrev pub opens_with : List ℕ → Opened → Bool
opens_with w (opened x ts) = same_bytes x w
opens_with w unopened = false

-- a later place of the bytes
pub record Onward (s : List ℕ) (at p : ℕ) : Type 0 where
  pub inside : p ≤ length s
  pub onward : at ≤ p

abbrev pub ClosedSays : List ℕ → ℕ → Option ℕ → Type 0
ClosedSays s at (Some p) = Onward s at p × (tokens (drop at s) ≡ closing ∷ tokens (drop p s))
ClosedSays s at None = is_closing (tokens (drop at s)) ≡ false

pub record ClosedIs (s : List ℕ) (at : ℕ) (r : Option ℕ) : Type 0 where
  pub says : ClosedSays s at r

abbrev pub OpenedSays : List ℕ → ℕ → List ℕ → Option ℕ → Type 0
OpenedSays s at w (Some p) = Onward s at p × (opened_of (tokens (drop at s)) ≡ opened w (tokens (drop p s)))
OpenedSays s at w None = opens_with w (opened_of (tokens (drop at s))) ≡ false

pub record OpenedIs (s : List ℕ) (at : ℕ) (w : List ℕ) (r : Option ℕ) : Type 0 where
  pub says : OpenedSays s at w r

-- behind the spaces at a place stands a byte
pub record ByteBehind (s : List ℕ) (at b p : ℕ) : Type 0 where
  pub place : p ≡ at + gap (drop at s)
  pub inside : p < length s
  pub byte : get_or s p 0 ≡ b

abbrev pub is_bracket : List Token → Bool
is_bracket [] = false
is_bracket (opening ∷ ts) = true
is_bracket (closing ∷ ts) = true
is_bracket (word x ∷ ts) = false

abbrev pub BracketSays : List ℕ → ℕ → Bracket → Type 0
BracketSays s at (Bracket.Opening p) = ByteBehind s at open_bracket p
BracketSays s at (Bracket.Closing p) = ByteBehind s at close_bracket p
BracketSays s at Bracket.Absent = is_bracket (tokens (drop at s)) ≡ false

pub record BracketIs (s : List ℕ) (at : ℕ) (r : Bracket) : Type 0 where
  pub says : BracketSays s at r

-- what names of a class are to a kind
abbrev pub class_fit : Kind → NameClass → NameFit
class_fit kind Common = Fit.Taken
class_fit Plain Generated = Fit.Taken
class_fit Preference Generated = Fit.Refused
class_fit kind TooLong = Fit.Refused
class_fit kind Wrong = Fit.Wrong

unfoldable pub name_fit : Kind → List ℕ → NameFit
name_fit kind x = class_fit kind (name_class x)

-- names up to a closing bracket
pub record Listed (kind : Kind) (s : List ℕ) (from end count : ℕ) (refused : Bool) : Type 0 where
  pub cuts : split_names (tokens (drop from s)) ≡ split (items (drop from s)) (tokens (drop end s))
  pub inside : end ≤ length s
  pub are_names_lem : are_names (items (drop from s)) ≡ true
  pub is_count : count ≡ length (items (drop from s))
  pub is_refused : refused ≡ some (refused_name kind) (items (drop from s))

-- no name up to the bracket is wrong, or no such list stands there
abbrev pub NamesSay : Kind → List ℕ → ℕ → Option Names → Type 0
NamesSay kind s from (Some names) = Listed kind s from names.end names.count names.refused
NamesSay kind s from None = (xs : List (List ℕ)) (rest : List Token) → split_names (tokens (drop from s)) ≡ split xs rest → are_names xs ≡ false

pub record NamesAre (kind : Kind) (s : List ℕ) (from : ℕ) (r : Option Names) : Type 0 where
  pub says : NamesSay kind s from r

-- the same behind a bracket and its word
pub record ListedBehind (kind : Kind) (w s : List ℕ) (at end : ℕ) (refused : Bool) : Type 0 where
  pub names : List (List ℕ)
  pub cuts : split_list w (tokens (drop at s)) ≡ split names (tokens (drop end s))
  pub inside : end ≤ length s
  pub are_names_lem : are_names names ≡ true
  pub is_refused : refused ≡ some (refused_name kind) names

abbrev pub ListSays : Kind → List ℕ → List ℕ → ℕ → Option Names → Type 0
ListSays kind w s at (Some names) = ListedBehind kind w s at names.end names.refused
ListSays kind w s at None = (xs : List (List ℕ)) (rest : List Token) → split_list w (tokens (drop at s)) ≡ split xs rest → are_names xs ≡ false

pub record ListIs (kind : Kind) (w s : List ℕ) (at : ℕ) (r : Option Names) : Type 0 where
  pub says : ListSays kind w s at r

abbrev pub word_of : Keyword → Word
word_of Atoms = atoms
word_of Min = min
word_of Vary = vary
word_of Fix = fix

-- the line's form f declares the names that stand from a place on
pub record Declared (kind : Kind) (l : List ℕ) (f : LineForm) (d : DeclaredShape) : Type 0 where
  pub form : f ≡ declares (word_of d.word) (items (drop d.from l))
  pub inside : d.from ≤ length l
  pub is_count : d.count ≡ length (items (drop d.from l))
  pub is_refused : d.refused ≡ some (refused_name kind) (items (drop d.from l))

-- the line's form f is a rule
pub record Ruled (kind : Kind) (f : LineForm) (refused : Bool) : Type 0 where
  pub heads : List (List ℕ)
  pub bodies : List (List ℕ)
  pub nots : List (List ℕ)
  pub form : f ≡ rules heads bodies nots
  pub is_refused : refused ≡ any_of (some (refused_name kind)) heads bodies nots

-- `(then a))`, the end of a condition's line
abbrev pub then_tokens : List ℕ → List Token
then_tokens a = opening ∷ word then_word ∷ word a ∷ closing ∷ closing ∷ []

-- a condition, or no form
abbrev pub Otherwise : LineForm → Type 0
Otherwise (declares w xs) = ⊥
Otherwise (rules hs bs ns) = ⊥
Otherwise (condition ts a) = Unit {0}
Otherwise blank = ⊥
Otherwise broken = Unit {0}

-- what a shape says of a line and its form
abbrev pub ShapeIs : Kind → List ℕ → LineForm → Shape → Type 0
ShapeIs kind l f Line.Blank = f ≡ blank
ShapeIs kind l f (Line.Declares d) = Declared kind l f d
ShapeIs kind l f (Line.Rule refused) = Ruled kind f refused
ShapeIs kind l f Line.Other = Otherwise f
