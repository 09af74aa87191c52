use Rattle.stores.proofs.RuleLists.{head_is, body_is, nots_are}
use Rattle.stores.proofs.rule_words.rule_lists.Goals as goal

pub returns-clause-heads : goal.returns-clause-heads
returns-clause-heads c = head_is _

pub returns-clause-bodies : goal.returns-clause-bodies
returns-clause-bodies c = body_is _

pub returns-clause-nots : goal.returns-clause-nots
returns-clause-nots c = nots_are _
