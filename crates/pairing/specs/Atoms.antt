-- The atoms of a translation: their order, their numbers and their names (document 01, "The translation").
use Rattle.std.specs.Prelude.{ℕ, suc, ◌+◌, ◌*◌, List, [], ◌∷◌, ◌++◌, map, Bool, not, leb, eqb, length, get_or}
use Rattle.kinds.specs.Words.{bytes, decimal}
use Rattle.kinds.specs.Limits.{class_limit, varying, fixed}
use Rattle.rules.specs.Lists.{filter, from}
use Rattle.stores.specs.Program.{Program}

-- an atom of the file; N., S. and D. of one; E.0 to E.k; U
pub data Atom : Type 0 where
  original N S D E : ℕ → Atom
  U : Atom

module _ (p : Program) where
  -- the file's atoms by number, and those of them that are minimised, varying, fixed and not fixed
  abbrev pub originals : List ℕ
  originals = from 0 p.atoms

  -- a class atom's class
  abbrev pub class_word : ℕ → ℕ
  class_word a = get_or p.words a 0

  abbrev pub is_minimised : ℕ → Bool
  is_minimised a = leb (class_word a) class_limit

  -- varying or fixed
  abbrev pub is_unminimised : ℕ → Bool
  is_unminimised a = not (is_minimised a)

  abbrev pub is_varying : ℕ → Bool
  is_varying a = eqb (class_word a) varying

  abbrev pub is_fixed : ℕ → Bool
  is_fixed a = eqb (class_word a) fixed

  abbrev pub is_unfixed : ℕ → Bool
  is_unfixed a = not (is_fixed a)

  abbrev pub minimised_atoms : List ℕ
  minimised_atoms = filter is_minimised originals

  abbrev pub varying_atoms : List ℕ
  varying_atoms = filter is_varying originals

  abbrev pub fixed_atoms : List ℕ
  fixed_atoms = filter is_fixed originals

  abbrev pub unfixed_atoms : List ℕ
  unfixed_atoms = filter is_unfixed originals

  -- originals, all N., S. of each not fixed, D. of each minimised, E.0 to E.k, U
  unfoldable pub declared : List Atom
  declared =
      map original originals
      ++ (map N originals
      ++ (map S unfixed_atoms
      ++ (map D minimised_atoms
      ++ (map E (from 0 (suc p.classes))
      ++ (U ∷ [])))))

  -- an atom's number in that order; no class word falls, so the unfixed and the minimised atoms are the first ones
  abbrev pub atom_number : Atom → ℕ
  atom_number (original a) = a
  atom_number (N a) = p.atoms + a
  atom_number (S a) = 2 * p.atoms + a
  atom_number (D a) = 2 * p.atoms + length unfixed_atoms + a
  atom_number (E j) = 2 * p.atoms + length unfixed_atoms + length minimised_atoms + j
  atom_number U = 2 * p.atoms + length unfixed_atoms + length minimised_atoms + suc p.classes

-- an atom's name, by the file's names: `N.`, `S.` or `D.` before a name of the file, `E.` before a number, `U`
abbrev pub name_of : List (List ℕ) → Atom → List ℕ
name_of names (original a) = get_or names a []
name_of names (N a) = bytes "N." ++ get_or names a []
name_of names (S a) = bytes "S." ++ get_or names a []
name_of names (D a) = bytes "D." ++ get_or names a []
name_of names (E j) = bytes "E." ++ decimal j
name_of names U = bytes "U"
