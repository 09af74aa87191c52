-- The numbers from which the atoms of a translation are counted, and what the steps need of the file.
use Rattle.std.specs.Prelude.{ℕ, ◌+◌, ◌*◌, ◌≤◌, ◌≡◌, List, length}
use Rattle.kinds.specs.Limits.{class_limit}
use Rattle.stores.specs.Program.{NeverFalling}
use Rattle.stores.specs.StoredRules.{StoredRules}
use Rattle.atom_lists.specs.Roles.{FirstMinimised}
use Rattle.steps.specs.declared.offsets.Offsets.{Offsets}

-- n atoms, k classes, m minimised and q unfixed atoms
abbrev pub offsets_of : ℕ → ℕ → ℕ → ℕ → Offsets
offsets_of n k m q = record { n = n; s = 2 * n; d = 2 * n + q; e = 2 * n + q + m; u = 2 * n + q + m + (k + 1) }

-- all of them are inside the limits
pub record Small (o : Offsets) : Type 0 where
  pub n_fits : o.n ≤ 256
  pub s_fits : o.s ≤ 1100
  pub d_fits : o.d ≤ 1100
  pub e_fits : o.e ≤ 1100
  pub u_fits : o.u ≤ 1100

-- what steps 1 to 3 need of the words of so many rules
pub record FileFits (rs : List ℕ) (count : ℕ) (o : Offsets) : Type 0 where
  pub small : Small o
  pub rules : StoredRules o.n count rs

-- what steps 4 to 6 need of the class words of k classes and m minimised atoms
pub record ClassesFit (ws : List ℕ) (k m : ℕ) (o : Offsets) : Type 0 where
  pub small : Small o
  pub atoms : length ws ≡ o.n
  pub classes : k ≤ class_limit
  pub rising : NeverFalling 0 ws
  pub first : FirstMinimised m ws
