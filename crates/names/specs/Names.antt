-- Names: which bytes each kind of program takes (document 01, "The two kinds of file"; document 02, W-201, W-208).
use Rattle.std.specs.Prelude.{ℕ, Bool, true, false, ◌&&◌, ◌||◌, cond, List, [], ◌∷◌, ◌++◌, leb, eqb, length, get_or, drop, Option, Some, None}
use Rattle.kinds.specs.Limits.{atom_limit, name_limit}
use Rattle.kinds.specs.Words.{byte, bytes, decimal}
use Rattle.kinds.specs.declared.limits.Kind.{Kind}
use Rattle.kinds.specs.declared.limits.Kind.TheVariants.{Plain, Preference}
use Rattle.rules.specs.Lists.{every}
use Rattle.names.specs.Numerals.{is_digit, is_numeral, value}
use Rattle.names.specs.declared.forms.NameClass.{NameClass}
use Rattle.names.specs.declared.forms.NameClass.TheVariants.{Common, Generated, TooLong, Wrong}

-- a letter a to z
abbrev pub is_letter : ℕ → Bool
is_letter b = leb (byte "a") b && leb b (byte "z")

-- a letter or a digit
abbrev pub is_first_byte : ℕ → Bool
is_first_byte b = is_letter b || is_digit b

-- a letter, a digit or `_`
abbrev pub is_name_byte : ℕ → Bool
is_name_byte b = is_letter b || (is_digit b || eqb b (byte "_"))

-- a letter or a digit, then letters, digits or `_`: a house name but for its length
unfoldable pub is_house : List ℕ → Bool
is_house [] = false
is_house (b ∷ bs) = is_first_byte b && every is_name_byte bs

-- a number from 1 to 256, without leading zero
unfoldable pub is_atom_number : List ℕ → Bool
is_atom_number bs = is_numeral bs && (leb 1 (value bs) && leb (value bs) (atom_limit Preference))

-- the number itself, none for other bytes
abbrev pub atom_number : List ℕ → Option ℕ
atom_number bs = cond (is_atom_number bs) (Some (value bs)) None

-- `T.` before a number from 1 to 256, without leading zero: the name of an atom that a condition makes (document 02, W-208)
unfoldable pub is_made_name : List ℕ → Bool
is_made_name bs = eqb (get_or bs 0 0) (byte "T") && (eqb (get_or bs 1 0) (byte ".") && is_atom_number (drop 2 bs))

-- the number of such a name, none for other bytes
unfoldable pub made_number : List ℕ → Option ℕ
made_number bs = cond (is_made_name bs) (Some (value (drop 2 bs))) None

-- the name of the atom that the connective with number t makes
unfoldable pub made_name : ℕ → List ℕ
made_name t = bytes "T." ++ decimal t

-- a name of both kinds of file, but for its length
unfoldable pub is_common_name : List ℕ → Bool
is_common_name bs = is_house bs || is_made_name bs

-- 0 to 16 without leading zero
unfoldable pub is_class_number : List ℕ → Bool
is_class_number bs =
    (eqb (length bs) 1 && is_digit (get_or bs 0 0))
    || (eqb (length bs) 2 && (eqb (get_or bs 0 0) (byte "1") && (leb (byte "0") (get_or bs 1 0) && leb (get_or bs 1 0) (byte "6"))))

-- a name, by its length
abbrev pub by_length : List ℕ → NameClass → NameClass
by_length bs c = cond (leb (length bs) name_limit) c TooLong

-- `N.`, `S.` or `D.` before a name of both kinds, `E.` before a class number
abbrev pub dotted : ℕ → List ℕ → NameClass
dotted c bs =
    cond ((eqb c (byte "N") || (eqb c (byte "S") || eqb c (byte "D"))) && is_common_name bs) (by_length bs Generated)
    (cond (eqb c (byte "E") && is_class_number bs) Generated Wrong)

-- `U`, or one of the dotted names
abbrev pub generated : List ℕ → NameClass
generated bs =
    cond (eqb (length bs) 1 && eqb (get_or bs 0 0) (byte "U")) Generated
    (cond (leb 2 (length bs) && eqb (get_or bs 1 0) (byte ".")) (dotted (get_or bs 0 0) (drop 2 bs)) Wrong)

unfoldable pub name_class : List ℕ → NameClass
name_class bs = cond (is_common_name bs) (by_length bs Common) (generated bs)

abbrev pub takes : Kind → NameClass → Bool
takes Plain Common = true
takes Plain Generated = true
takes Plain TooLong = false
takes Plain Wrong = false
takes Preference Common = true
takes Preference Generated = false
takes Preference TooLong = false
takes Preference Wrong = false

-- a name allowed to that kind
unfoldable pub allowed : Kind → List ℕ → Bool
allowed kind bs = takes kind (name_class bs)
