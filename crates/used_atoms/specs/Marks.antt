-- A mark for each atom that stands in a rule.
use Rattle.std.specs.Prelude.{ℕ, ◌≡◌, Bool, false, ◌||◌, List, length, get_or}
use Rattle.rules.specs.Lists.{filter, from}

-- the marks of the atoms that pass the test are set, and all others stay
pub record Marks (t : ℕ → Bool) (before after : List Bool) : Type 0 where
  pub mark : (a : ℕ) → get_or after a false ≡ (t a || get_or before a false)
  pub size : length after ≡ length before

-- the atoms below n whose mark is set, in sequence
unfoldable pub marked : ℕ → List Bool → List ℕ
marked n marks = filter (λ a. get_or marks a false) (from 0 n)
