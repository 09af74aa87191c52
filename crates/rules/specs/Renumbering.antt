-- The same atoms by other numbers.
use Rattle.std.specs.Prelude.{ℕ, ◌<◌, ◌≡◌, List, map, ◌↔◌, length, get_or}
use Rattle.rules.specs.Lists.{All, from}
use Rattle.rules.specs.Sets.{has}
use Rattle.rules.specs.Rules.{Rule, rename}
use Rattle.rules.specs.Preferred.{Preferred}

-- f and g are each other's inverses on the numbers below n
pub record Bijection (n : ℕ) (f g : ℕ → ℕ) : Type 0 where
  pub there : (a : ℕ) → a < n → f a < n
  pub back : (a : ℕ) → a < n → g a < n
  pub there_back : (a : ℕ) → a < n → g (f a) ≡ a
  pub back_there : (a : ℕ) → a < n → f (g a) ≡ a

-- atom a of ws is atom f a of ws', and g goes back
pub record Renumbered (f g : ℕ → ℕ) (ws ws' : List ℕ) : Type 0 where
  pub size : length ws' ≡ length ws
  pub bijection : Bijection (length ws) f g
  pub words : (a : ℕ) → a < length ws → get_or ws' (f a) 0 ≡ get_or ws a 0

-- the class words by the new numbers
abbrev pub renumber_words : (ℕ → ℕ) → List ℕ → List ℕ
renumber_words g ws = map (λ a. get_or ws (g a) 0) (from 0 (length ws))

-- Q holds of every atom of a rule
pub record Within {A : Type 0} (Q : A → Type 0) (r : Rule A) : Type 0 where
  pub head : All Q r.head
  pub body : All Q r.body
  pub nots : All Q r.nots

-- m' has, by their new numbers, the atoms below n that m has
abbrev pub SameAtoms : (ℕ → ℕ) → ℕ → ℕ → ℕ → Type 0
SameAtoms f n m m' = (a : ℕ) → a < n → has m' (f a) ≡ has m a

-- a set is preferred exactly when the renumbered one is, by the renumbered class words and rules
abbrev pub SamePreferred : (ℕ → ℕ) → List ℕ → List ℕ → List (Rule ℕ) → Type 0
SamePreferred f ws ws' rs = (m m' : ℕ) → SameAtoms f (length ws) m m' → Preferred ws rs m ↔ Preferred ws' (map (rename f) rs) m'

-- a set is preferred where the renumbered one is
abbrev pub NoneNewRenumbered : (ℕ → ℕ) → List ℕ → List ℕ → List (Rule ℕ) → Type 0
NoneNewRenumbered f ws ws' rs = (m m' : ℕ) → SameAtoms f (length ws) m m' → Preferred ws' (map (rename f) rs) m' → Preferred ws rs m
