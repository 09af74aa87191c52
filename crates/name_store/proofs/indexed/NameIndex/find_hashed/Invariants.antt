use Rattle.name_store.proofs.NameChains.{Search}
use Rattle.name_store.proofs.indexed.NameIndex.find_hashed.Given as goal

abbrev pub invariant-loop-link : goal.invariant-loop-link
invariant-loop-link l = Search l.self.bytes.now l.self.starts.now l.self.firsts.now l.self.links.now l.name l.link

abbrev pub decreases-loop-link : goal.decreases-loop-link
decreases-loop-link l = l.link
