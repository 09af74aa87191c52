-- The marks and the new numbers of a program's atoms.
use Rattle.std.specs.Prelude.{ℕ, ◌≤◌, ◌<◌, ◌≡◌, Bool, List, map, length, get_or}
use Rattle.rules.specs.Lists.{All}
use Rattle.rules.specs.Rules.{rename}
use Rattle.rules.specs.Renumbering.{Within}
use Rattle.stores.specs.Program.{Program}
use Rattle.restriction.specs.Atoms.{renumbered}
use Rattle.restriction.specs.Remaining.{left}
use Rattle.used_atoms.specs.Marks.{marked}

-- the marks are those of the atoms that are left, and each of these has its place among them as its number
pub record Tables (p : Program) (marks : List Bool) (numbers : List ℕ) (count : ℕ) : Type 0 where
  pub marks_room : p.atoms ≤ length marks
  pub numbers_room : p.atoms ≤ length numbers
  pub inside : All (Within (λ a. a < p.atoms)) p.rules
  pub marks_are : marked p.atoms marks ≡ left p
  pub numbers_are : map (rename (λ a. get_or numbers a 0)) p.rules ≡ renumbered (left p) p.rules
  pub count_is : count ≡ length (left p)
