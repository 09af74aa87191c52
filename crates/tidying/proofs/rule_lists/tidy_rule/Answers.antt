use Rattle.tidying.proofs.ListParts.{head_ready, body_ready, nots_ready, all_tidy}
use native.Mathlib.Omega.{arith}
use Rattle.tidying.proofs.rule_lists.tidy_rule.Goals as goal

pub tidy_list-requires : goal.tidy_list-requires
tidy_list-requires c = head_ready _ c.requires.0 c.requires.1

pub tidy_list-requires-2 : goal.tidy_list-requires-2
tidy_list-requires-2 c = body_ready _ c.requires.0 _ c.tidy_list.ensures (omega arith)

pub tidy_list-requires-3 : goal.tidy_list-requires-3
tidy_list-requires-3 c = nots_ready _ c.requires.0 _ c.tidy_list.ensures _ c.tidy_list-2.ensures (omega arith)

pub returns : goal.returns
returns c = all_tidy _ c.requires.0 _ c.tidy_list.ensures _ c.tidy_list-2.ensures _ c.tidy_list-3.ensures
