-- The next state over the rules' masks, sorted by their last atom.
use Rattle.std.specs.Prelude.{ℕ, ◌≡◌, List}
use Rattle.walks.specs.declared.answers.NextState.{NextState}
use Rattle.groups.specs.Groups.{GroupsOf}
use Rattle.lister.specs.NextMasks.{next_m}

-- the next state by some grouping of the masks
pub record SortedNext (cs ws classes : List ℕ) (fixed n start budget : ℕ) (v : NextState) : Type 0 where
  pub care : List ℕ
  pub want : List ℕ
  pub starts : List ℕ
  pub groups : GroupsOf cs ws care want starts
  pub next : v ≡ next_m care want starts classes fixed n start budget
