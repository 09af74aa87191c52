-- Lists that have the atoms of some rules.
use Rattle.std.specs.Prelude.{ℕ, ◌<◌, List, T}
use Rattle.rules.specs.Lists.{All, Distinct}
use Rattle.rules.specs.Rules.{Rule}
use Rattle.rules.specs.Renumbering.{Within}
use Rattle.restriction.specs.Atoms.{is_member}

-- the list has atoms below n, each once, and among them those of the rules
pub record Covers (n : ℕ) (xs : List ℕ) (rs : List (Rule ℕ)) : Type 0 where
  pub inside : All (λ a. a < n) xs
  pub different : Distinct xs
  pub atoms : All (Within (λ a. T (is_member xs a))) rs
