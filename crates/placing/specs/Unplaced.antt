-- What the lines have given, the made atoms numbered behind all declared ones.
use Rattle.std.specs.Prelude.{◌+◌, ◌≤◌, ◌<◌, length}
use Rattle.kinds.specs.Limits.{atom_limit}
use Rattle.kinds.specs.declared.limits.Kind.TheVariants.{Preference}
use Rattle.rules.specs.Lists.{All}
use Rattle.rules.specs.Renumbering.{Within}
use Rattle.lines.specs.Faults.{SoFar}

-- there is a made atom, all atoms are within the limit, and the rules are over them
pub record Unplaced (st : SoFar) : Type 0 where
  pub one : 0 < st.made
  pub few : length st.names + st.made ≤ atom_limit Preference
  pub inside : All (Within (λ a. a < length st.names + st.made)) st.program_rules
