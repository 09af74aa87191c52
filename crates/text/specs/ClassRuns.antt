-- The class words never fall, so the atoms of one class word are a run.
use Rattle.std.specs.Prelude.{ℕ, List, [], ◌∷◌, leb}
use Rattle.kinds.specs.declared.limits.Kind.TheVariants.{Preference}
use Rattle.rules.specs.Rules.{count_if}
use Rattle.stores.specs.Program.{ClassesForm}

-- the class words of a preference program with n atoms and k classes
pub record ClassWordsOf (n k : ℕ) (ws : List ℕ) : Type 0 where
  pub form : ClassesForm Preference n k ws

-- how many words stand before the first one above w
unfoldable pub up_to : ℕ → List ℕ → ℕ
up_to w [] = 0
up_to w (x ∷ ws) = count_if (leb x w) (up_to w ws)
