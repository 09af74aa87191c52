-- Names and name stores at the edges of what document 01 takes.
use mathlib.Core.Path.{◌≡◌, refl}
use mathlib.Core.List.{List, [], ◌∷◌, ◌++◌}
use mathlib.Core.Bool.{true, false}
use Prim.Native.Nat.{ℕ}
use lib.ListN.{replicate}
use Rattle.kinds.specs.Words.{bytes}
use Rattle.kinds.specs.declared.limits.Kind.TheVariants.{Plain, Preference}
use Rattle.names.specs.declared.forms.NameClass.TheVariants.{Common, Generated, TooLong, Wrong}
use Rattle.std.specs.Prelude.{Some, None}
use Rattle.names.specs.Numerals.{value}
use Rattle.names.specs.Names.{is_house, is_atom_number, is_made_name, is_common_name, is_class_number, name_class, allowed}
use Rattle.name_store.specs.NameStore.{same_bytes, decode_names, are_names_from, are_names}
use Rattle.name_store.specs.NameIndex.{found_from, found}

-- so many bytes `a`
abbrev as_of : ℕ → List ℕ
as_of n = replicate n 97

-- names of 24 and of 25 bytes, alone and after `N.`, `S.` and `D.`
pub lengths : (name_class (as_of 24) ≡ Common)
    × (name_class (as_of 25) ≡ TooLong)
    × (name_class (bytes "N." ++ as_of 24) ≡ Generated)
    × (name_class (bytes "N." ++ as_of 25) ≡ TooLong)
    × (name_class (bytes "S." ++ as_of 24) ≡ Generated)
    × (name_class (bytes "S." ++ as_of 25) ≡ TooLong)
    × (name_class (bytes "D." ++ as_of 24) ≡ Generated)
    × (name_class (bytes "D." ++ as_of 25) ≡ TooLong)
unfolding name_class is_common_name is_made_name is_house
lengths = (refl, refl, refl, refl, refl, refl, refl, refl)

-- catalogue numbers: 7, 1999_12, alone and after `N.`; _a, N._7
pub numbers_as_names : (name_class (bytes "7") ≡ Common)
    × (name_class (bytes "1999_12") ≡ Common)
    × (name_class (bytes "N.1999_12") ≡ Generated)
    × (name_class (bytes "_a") ≡ Wrong)
    × (name_class (bytes "N._7") ≡ Wrong)
unfolding name_class is_common_name is_made_name is_house is_class_number
numbers_as_names = (refl, refl, refl, refl, refl)

-- T.1, T.256, T.0, T.01, T.257, T.1024, T.x, T., alone and after `N.`
pub made_names : (name_class (bytes "T.1") ≡ Common)
    × (name_class (bytes "T.256") ≡ Common)
    × (name_class (bytes "T.0") ≡ Wrong)
    × (name_class (bytes "T.01") ≡ Wrong)
    × (name_class (bytes "T.257") ≡ Wrong)
    × (name_class (bytes "T.1024") ≡ Wrong)
    × (name_class (bytes "T.x") ≡ Wrong)
    × (name_class (bytes "T.") ≡ Wrong)
    × (name_class (bytes "N.T.1") ≡ Generated)
    × (name_class (bytes "S.T.256") ≡ Generated)
    × (name_class (bytes "D.T.257") ≡ Wrong)
    × (name_class (bytes "T.N.1") ≡ Wrong)
unfolding name_class is_common_name is_made_name is_atom_number value is_house is_class_number
made_names = (refl, refl, refl, refl, refl, refl, refl, refl, refl, refl, refl, refl)

-- E.0, E.16, E.17, E.01
pub class_numbers : (name_class (bytes "E.0") ≡ Generated)
    × (name_class (bytes "E.16") ≡ Generated)
    × (name_class (bytes "E.17") ≡ Wrong)
    × (name_class (bytes "E.01") ≡ Wrong)
unfolding name_class is_common_name is_made_name is_house is_class_number
class_numbers = (refl, refl, refl, refl)

-- U, U.a, the empty name, aB
pub forms : (name_class (bytes "U") ≡ Generated)
    × (name_class (bytes "U.a") ≡ Wrong)
    × (name_class [] ≡ Wrong)
    × (name_class (bytes "aB") ≡ Wrong)
unfolding name_class is_common_name is_made_name is_house is_class_number
forms = (refl, refl, refl, refl)

-- a generated name, and `a`, in either kind
pub kinds : (allowed Plain (bytes "U") ≡ true)
    × (allowed Preference (bytes "U") ≡ false)
    × (allowed Plain (bytes "a") ≡ true)
    × (allowed Preference (bytes "a") ≡ true)
unfolding allowed name_class is_common_name is_made_name is_house
kinds = (refl, refl, refl, refl)

-- T.256, T.257, N.T.1 in either kind
pub made_kinds : (allowed Plain (bytes "T.256") ≡ true)
    × (allowed Preference (bytes "T.256") ≡ true)
    × (allowed Plain (bytes "T.257") ≡ false)
    × (allowed Preference (bytes "T.257") ≡ false)
    × (allowed Plain (bytes "N.T.1") ≡ true)
    × (allowed Preference (bytes "N.T.1") ≡ false)
unfolding allowed name_class is_common_name is_made_name is_atom_number value is_house
made_kinds = (refl, refl, refl, refl, refl, refl)

-- the store of `a` and `bc`; with the same name twice; with one byte too many, one too few, one name too few
pub stores : (are_names Preference 2 (1 ∷ 97 ∷ 2 ∷ 98 ∷ 99 ∷ []) ≡ true)
    × (are_names Preference 2 (1 ∷ 97 ∷ 1 ∷ 97 ∷ []) ≡ false)
    × (are_names Preference 2 (1 ∷ 97 ∷ 2 ∷ 98 ∷ 99 ∷ 0 ∷ []) ≡ false)
    × (are_names Preference 2 (1 ∷ 97 ∷ 2 ∷ 98 ∷ []) ≡ false)
    × (are_names Preference 2 (1 ∷ 97 ∷ []) ≡ false)
    × (are_names Preference 0 [] ≡ true)
unfolding are_names are_names_from same_bytes allowed name_class is_common_name is_made_name is_house
stores = (refl, refl, refl, refl, refl, refl)

-- `bc` is number 1 of `a` and `bc`, `b` is none
pub numbers : (found (bytes "bc") (decode_names 2 (1 ∷ 97 ∷ 2 ∷ 98 ∷ 99 ∷ [])) ≡ Some 1)
    × (found (bytes "b") (decode_names 2 (1 ∷ 97 ∷ 2 ∷ 98 ∷ 99 ∷ [])) ≡ None)
unfolding found_from decode_names same_bytes
numbers = (refl, refl)
