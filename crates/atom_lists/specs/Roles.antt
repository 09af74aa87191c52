-- What the class words say of the atoms.
use Rattle.std.specs.Prelude.{ℕ, ◌≤◌, ◌<◌, Bool, true, false, not, List, leb, eqb, length, get_or}
use Rattle.kinds.specs.Limits.{class_limit, fixed}
use Rattle.rules.specs.Lists.{filter, from}

abbrev pub pick_class : Bool → ℕ → ℕ
pick_class true w = w
pick_class false w = 0

-- the class of a minimised atom; 0 for any other
unfoldable pub class_of : List ℕ → ℕ → ℕ
class_of ws a = pick_class (leb (get_or ws a 0) class_limit) (get_or ws a 0)

-- no class word is 0
pub record Low (ws : List ℕ) : Type 0 where
  pub word : (a : ℕ) → a < length ws → 1 ≤ get_or ws a 0

unfoldable pub minimised_count : List ℕ → ℕ
minimised_count ws = length (filter (λ a. leb (get_or ws a 0) class_limit) (from 0 (length ws)))

abbrev pub is_fixed_word : List ℕ → ℕ → Bool
is_fixed_word ws a = eqb (get_or ws a 0) fixed

unfoldable pub unfixed_count : List ℕ → ℕ
unfixed_count ws = length (filter (λ a. not (is_fixed_word ws a)) (from 0 (length ws)))

-- the first m atoms are minimised
pub record FirstMinimised (m : ℕ) (ws : List ℕ) : Type 0 where
  pub inside : m ≤ length ws
  pub low : Low ws
  pub class : (a : ℕ) → a < m → get_or ws a 0 ≤ class_limit
