-- What is left of a program: "only atoms that stand in some rule belong to a preference program" (document 02, W-203).
use Rattle.std.specs.Prelude.{ℕ, ◌<◌, List, [], T, length}
use Rattle.kinds.specs.declared.limits.Kind.{Kind}
use Rattle.kinds.specs.declared.limits.Kind.TheVariants.{Plain, Preference}
use Rattle.stores.specs.Program.{Program}
use Rattle.restriction.specs.Atoms.{is_used, used, renumbered, entries}

-- the program over the atoms of a list, whatever their sequence: an atom's new number is its place in the list, and the classes stay
unfoldable pub restrict : List ℕ → Program → Program
restrict xs p = record {
  kind = p.kind;
  atoms = length xs;
  classes = p.classes;
  words = entries 0 p.words xs;
  rules = renumbered xs p.rules;
}

-- the atoms that are left, by the numbers that the lines give them
abbrev pub left : Program → List ℕ
left p = used p.atoms p.rules

-- a plain program keeps all its atoms
abbrev pub remaining_of : Kind → Program → Program
remaining_of Plain p = p
remaining_of Preference p = restrict (left p) p

abbrev pub remaining_names_of : Kind → Program → List (List ℕ) → List (List ℕ)
remaining_names_of Plain p names = names
remaining_names_of Preference p names = entries [] names (left p)

unfoldable pub remaining : Program → Program
remaining p = remaining_of p.kind p

unfoldable pub remaining_names : Program → List (List ℕ) → List (List ℕ)
remaining_names p names = remaining_names_of p.kind p names

-- every atom stands in some rule
abbrev pub AllUsed : Program → Type 0
AllUsed p = (a : ℕ) → a < p.atoms → T (is_used p.rules a)
