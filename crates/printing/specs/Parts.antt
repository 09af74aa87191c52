-- The parts of a line, and what a function leaves that shows a text.
use Rattle.std.specs.Prelude.{ℕ, ◌-◌, ◌≡◌, cond, List, [], length, get_or}
use Rattle.rules.specs.Lists.{filter, flat, from, over}
use Rattle.rules.specs.Sets.{has}
use Rattle.text.specs.Text.{item, named}
use Rattle.answers.specs.Printed.{shown}

-- the name of atom a, if the state has it
unfoldable pub member : List (List ℕ) → ℕ → ℕ → List ℕ
member names s a = cond (has s a) (item (get_or names a [])) []

-- the names of the state's atoms from number i up to n
unfoldable pub members : List (List ℕ) → ℕ → ℕ → ℕ → List ℕ
members names s i n = flat item (named names (filter (has s) (from i (n - i))))

-- a text in a lent output
pub record Shown (text before after : List ℕ) (size : ℕ) : Type 0 where
  pub count : size ≡ length (shown text before)
  pub bytes : after ≡ over (shown text before) before
