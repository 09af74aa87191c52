use Rattle.rule_adding.proofs.MarkedLists.{marks_length, lists_ready, index_grown}
use Rattle.stores.proofs.StoredRules.{stored_more}
use mathlib.Core.Path.{sym}
use Rattle.rule_adding.proofs.grown_index.grow_index.Goals as goal

pub mark_rules-requires : goal.mark_rules-requires
mark_rules-requires c = (stored_more c.requires.0 c.requires.1, tt)

pub slice_bounds-grow_lists-end : goal.slice_bounds-grow_lists-end
slice_bounds-grow_lists-end c = sym (marks_length c.args.rule.now c.mark_rules.ensures c.args.atoms c.requires.0)

pub grow_lists-requires : goal.grow_lists-requires
grow_lists-requires c = lists_ready c.args.rule.now c.mark_rules.ensures c.args.atoms c.requires.0 _ c.args.index.now c.requires.2 c.requires.3 c.requires.4

pub returns : goal.returns
returns c = index_grown c.args.rule.now c.mark_rules.ensures c.args.atoms c.requires.0 _ c.args.index.now c.grow_lists.ensures
