-- The search for a better set over the rules' masks, sorted by their last atom.
use Rattle.std.specs.Prelude.{ℕ, ◌≡◌, List}
use Rattle.walks.specs.Walk.{capped}
use Rattle.walks.specs.declared.answers.Verdict.{Verdict}
use Rattle.groups.specs.Groups.{GroupsOf}
use Rattle.descent.specs.Verdicts.{preferred_m}

-- the verdict by some grouping of the masks
pub record SortedSearch (cs ws classes : List ℕ) (fixed n of budget : ℕ) (v : Verdict) : Type 0 where
  pub care : List ℕ
  pub want : List ℕ
  pub starts : List ℕ
  pub groups : GroupsOf cs ws care want starts
  pub verdict : v ≡ capped budget (preferred_m care want starts classes fixed n of)
