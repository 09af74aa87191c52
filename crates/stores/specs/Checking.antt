-- What the check of a rule store keeps on its way.
use Rattle.std.specs.Prelude.{ℕ, ◌+◌, ◌<◌, cond, Option, Some, None, List, get_or, drop}
use Rattle.kinds.specs.declared.limits.Kind.{Kind}
use Rattle.stores.specs.declared.rule_store.RuleEnd.{RuleEnd}
use Rattle.stores.specs.RuleStore.{places, is_rule}

-- the check keeps a mark for each atom: the stamp of the last list that had it, each list having a higher one
pub record Below (stamp : ℕ) (marks : List ℕ) : Type 0 where
  pub mark : (a : ℕ) → get_or marks a 0 < stamp

abbrev pub rule_end : ℕ → ℕ → RuleEnd
rule_end at used = record { at = at; used = used }

-- past the rule that stands at `at`: the place of the next one and the occurrences so far; none where the rule is not of the form
unfoldable pub rule_check : Kind → ℕ → ℕ → ℕ → List ℕ → Option RuleEnd
rule_check kind n used at ws = cond (is_rule kind n used (drop at ws)) (Some (rule_end (at + (3 + places (drop at ws))) (used + places (drop at ws)))) None
