use borrow.Author.Rules.{rules}
use Rattle.stores.proofs.RuleLists.{bodies_below, nots_below}
use Rattle.stable_verdict.proofs.MarkLoops.{kept_read}
use Rattle.stable_verdict.proofs.reduct.is_kept.Goals as goal

pub some_in-requires : goal.some_in-requires
some_in-requires c = let b = bodies_below c.requires c.rule_lists.ensures.bodies in let n = nots_below c.requires c.rule_lists.ensures.nots in search rules

pub returns : goal.returns
returns c = kept_read _ c.rule_lists.ensures.nots _ _ c.some_in.ensures
