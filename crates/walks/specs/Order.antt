-- The order of the sets in walks and listings: by rising place (document 02, W-206).
use Rattle.std.specs.Prelude.{ℕ, ◌^◌, List, map, length}
use Rattle.rules.specs.Lists.{filter, from}
use Rattle.rules.specs.Rules.{Rule}
use Rattle.rules.specs.Preferred.{is_preferred}
use Rattle.places.specs.Places.{set_at}

-- all sets of n atoms
unfoldable pub walk_order : ℕ → List ℕ
walk_order n = map (set_at n) (from 0 (2 ^ n))

-- the preferred sets
unfoldable pub preferred_sets : List ℕ → List (Rule ℕ) → List ℕ
preferred_sets ws rs = filter (is_preferred ws rs) (walk_order (length ws))
