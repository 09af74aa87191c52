-- The search for a smaller model over the masks of the reduct's rules, sorted by their last atom.
use Rattle.std.specs.Prelude.{ℕ, ◌≡◌, List}
use Rattle.walks.specs.Walk.{capped}
use Rattle.walks.specs.declared.answers.Verdict.{Verdict}
use Rattle.groups.specs.Groups.{GroupsOf}
use Rattle.descent.specs.Verdicts.{stable_m}

-- the verdict by some grouping of the masks
pub record SortedSearch (cs ws : List ℕ) (n of budget : ℕ) (v : Verdict) : Type 0 where
  pub care : List ℕ
  pub want : List ℕ
  pub starts : List ℕ
  pub groups : GroupsOf cs ws care want starts
  pub verdict : v ≡ capped budget (stable_m care want starts n of)
